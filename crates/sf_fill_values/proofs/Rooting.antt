-- what was rooted in a call's Lead and what is current by it speak of one moment
use Rattle.std.proofs.Common.{◌≡◌, ℕ, nat_eq, List, [], ◌∷◌, ◌++◌, Option, Some, refl, sym, ap, ◌∙◌, subst, append_assoc}
use Rattle.sf_history.specs.declared.call.CallId.{CallId}
use Rattle.sf_history.specs.declared.event.Event.{Event}
use Rattle.sf_history.specs.declared.event.Event.TheVariants.{Lead}
use Rattle.sf_history.specs.History.{current_call}
use Rattle.sf_history.specs.Legal.{IsLegal}
use Rattle.sf_group_rows.specs.Seen.{StartsWith}
use Rattle.sf_group_rows.specs.Unforgotten.{IsUnforgotten}
use Rattle.sf_group_rows.proofs.Moments.{current_unforgotten, led_once, unforgotten_after}
use Rattle.sf_fill_values.specs.Rooted.{IsRooted}

module _ {V : Type 0} where
  -- where a rooted call is current, its root is unforgotten
  pub root_unforgotten : (h moment : List (Event ℕ V)) (k : ℕ) (root c : CallId) → IsLegal nat_eq h → StartsWith h moment → current_call nat_eq moment k ≡ Some c → IsRooted k root c h → IsUnforgotten k root moment
  root_unforgotten h moment k root c legal within current rooted =
      let last = current_unforgotten moment k c current in
      let ends : List (Event ℕ V) = rooted.before ++ Lead rooted.by k c rooted.own ∷ [] in
      let first : h ≡ last.before ++ Lead last.by k c last.own ∷ (last.after ++ within.0) =
      within.1 ∙ (ap (λ l. l ++ within.0) last.led ∙ append_assoc last.before (Lead last.by k c last.own ∷ last.after) within.0) in
      let then : h ≡ rooted.before ++ Lead rooted.by k c rooted.own ∷ rooted.led.0 = rooted.led.1 ∙ append_assoc rooted.before (Lead rooted.by k c rooted.own ∷ []) rooted.led.0 in
      let same = led_once h last.before (last.after ++ within.0) rooted.before rooted.led.0 last.by k rooted.by k c last.own rooted.own legal first then in
      let split : last.before ++ Lead last.by k c last.own ∷ last.after ≡ ends ++ last.after =
      ap (λ l. l ++ Lead last.by k c last.own ∷ last.after) same.0 ∙ (ap (λ e. rooted.before ++ e ∷ last.after) same.1 ∙ sym (append_assoc rooted.before (Lead rooted.by k c rooted.own ∷ []) last.after)) in
      subst (λ (l : List (Event ℕ V)). IsUnforgotten k root l) (sym (last.led ∙ split)) (unforgotten_after k root ends last.after rooted.root_led last.since)

  -- a call whose run is the root
  pub rooted_itself : (h before : List (Event ℕ V)) (by k : ℕ) (c : CallId) (own : Option CallId) → StartsWith h (before ++ Lead by k c own ∷ []) → IsRooted k c c h
  rooted_itself h before by k c own led = record {
    before = before;
    by = by;
    own = own;
    led = led;
    root_led = record { before = before; by = by; own = own; after = []; led = refl; since = refl };
  }

  -- a call that follows a current one has its root
  pub rooted_after : (h before : List (Event ℕ V)) (by k : ℕ) (root c d : CallId) (own : Option CallId) → IsLegal nat_eq h → StartsWith h (before ++ Lead by k c own ∷ [])
      → current_call nat_eq before k ≡ Some d → IsRooted k root d h → IsRooted k root c h
  rooted_after h before by k root c d own legal led current rooted = record {
    before = before;
    by = by;
    own = own;
    led = led;
    root_led = unforgotten_after k root before (Lead by k c own ∷ [])
        (root_unforgotten h before k root d legal (Lead by k c own ∷ led.0, led.1 ∙ append_assoc before (Lead by k c own ∷ []) led.0) current rooted) refl;
  }
