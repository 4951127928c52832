-- after a reload no call of the key is current that was before: the named one is forgotten, and another was not led last
use Rattle.std.proofs.Common.{◌≡◌, ◌≢◌, ℕ, nat_eq, Bool, true, false, List, [], ◌∷◌, ◌++◌, Option, Some, None, refl, sym, ◌∙◌, subst, append_assoc}
use Rattle.std.proofs.lemmas.Bool.{or_left, or_right, true≢false}
use Rattle.std.proofs.lemmas.Cmp.{nat_eq_equiv}
use Rattle.std.proofs.lemmas.List.Folds.{list_any-append}
use Rattle.std.specs.List.{list_any}
use Rattle.sf_history.specs.declared.call.CallId.{CallId}
use Rattle.sf_history.specs.declared.event.Event.{Event}
use Rattle.sf_history.specs.declared.event.Event.TheVariants.{Lead, ForgetCall}
use Rattle.sf_history.specs.declared.event.Hit.{Hit}
use Rattle.sf_history.specs.declared.event.Hit.TheVariants as hit
use Rattle.sf_history.specs.Calls.{same_call}
use Rattle.sf_history.specs.History.{names, holds_call, own_events, current_call, last_led}
use Rattle.sf_history.specs.Legal.{IsLegal}
use Rattle.sf_history.proofs.Currents.{current_past_longer, current_is_last_led, forgotten_is_past}
use Rattle.sf_history.proofs.LegalHistories.{same_call_is, same_call_self}
use Rattle.sf_group_rows.specs.Tokens.{CallerValue}
use Rattle.sf_group_rows.specs.Seen.{StartsWith}
use Rattle.sf_group_rows.proofs.AddsAgain.{starts_again}
use Rattle.sf_group_rows.proofs.Moments.{current_unforgotten, first_added, legal_before}
use Rattle.sf_fill_store.specs.declared.forget.Forgot.{Forgot}
use Rattle.sf_fill_store.specs.declared.forget.Forgot.TheVariants as forgot
use Rattle.sf_fill_values.specs.FillValue.{Filled}
use Rattle.sf_fill.specs.Fresh.{IsOutdated}
use Rattle.sf_fill_store.specs.Forgets.{HasForgotNamed, ForgetsNamed}

abbrev Seen : Type 0
Seen = List (Event ℕ Filled)

-- a list that has a call's Lead names the call
led_names : (p q : Seen) (by k : ℕ) (c : CallId) (own : Option CallId) → list_any (names c) (p ++ Lead by k c own ∷ q) ≡ true
led_names p q by k c own = list_any-append (names c) p (Lead by k c own ∷ q) ∙ or_right (list_any (names c) p) _ (or_left _ _ (or_left (same_call c c) (holds_call own c) (same_call_self c)))

pub current_names : (p : Seen) (k : ℕ) (c : CallId) → current_call nat_eq p k ≡ Some c → list_any (names c) p ≡ true
current_names p k c is =
    let u = current_unforgotten p k c is in
    subst (λ (l : Seen). list_any (names c) l ≡ true) (sym u.led) (led_names u.before u.after u.by k c u.own)

pub names_more : (h p : Seen) (c : CallId) → StartsWith h p → list_any (names c) p ≡ true → list_any (names c) h ≡ true
names_more h p c begins named = subst (λ (l : Seen). list_any (names c) l ≡ true) (sym begins.1) (list_any-append (names c) p begins.0 ∙ or_left (list_any (names c) p) _ named)

-- a named call that is not current never is again
pub past_after : (h p : Seen) (k : ℕ) (c : CallId) → IsLegal nat_eq h → StartsWith h p → list_any (names c) p ≡ true → current_call nat_eq p k ≢ Some c → current_call nat_eq h k ≢ Some c
past_after h p k c legal begins named isnt = subst (λ (l : Seen). current_call nat_eq l k ≢ Some c) (sym begins.1)
    (current_past_longer nat_eq p begins.0 k c (subst (λ (l : Seen). IsLegal nat_eq l) begins.1 legal) named isnt)

-- the named call is forgotten, so it is not current any more; another one was not, since it was not led last
module _ (a k : ℕ) (x : CallId) (h : Hit) (p m d : Seen) (before : StartsWith m p) (led : last_led nat_eq m k ≡ Some x) (legal : IsLegal nat_eq d) (begins : StartsWith d m)
    (own : own_events a d ≡ own_events a m ++ ForgetCall a k x h ∷ []) where
  outdated_itself : list_any (names x) m ≡ true → current_call nat_eq d k ≢ Some x
  outdated_itself named =
      let at = first_added a m d (ForgetCall a k x h) [] begins own in
      let front : Seen = (m ++ at.0) ++ ForgetCall a k x h ∷ [] in
      let within : StartsWith front m = (at.0 ++ ForgetCall a k x h ∷ [], append_assoc m at.0 (ForgetCall a k x h ∷ [])) in
      past_after d front k x legal at.1 (names_more front m x within named)
      (forgotten_is_past nat_eq (m ++ at.0) a k x h (legal_before d front legal at.1) (nat_eq_equiv.refl k))

  outdated_other : (c : CallId) → same_call x c ≡ false → list_any (names c) m ≡ true → current_call nat_eq d k ≢ Some c
  outdated_other c differ named = past_after d m k c legal begins named isnt
    where
      isnt : current_call nat_eq m k ≢ Some c
      isnt is =
          let last : Some x ≡ Some c = sym led ∙ current_is_last_led nat_eq m k c is in
          let calls : x ≡ c = cc in
          true≢false (sym (subst (λ (z : CallId). same_call x z ≡ true) calls (same_call_self x)) ∙ differ)

  outdated_named : IsOutdated k p d
  outdated_named c is = at (same_call x c) refl
    where
      named : list_any (names c) m ≡ true
      named = names_more m p c before (current_names p k c is)

      at : (b : Bool) → same_call x c ≡ b → current_call nat_eq d k ≢ Some c
      at true same =
          let calls : x ≡ c = same_call_is x c same in
          subst (λ (z : CallId). current_call nat_eq d k ≢ Some z) calls (outdated_itself (subst (λ (z : CallId). list_any (names z) m ≡ true) (sym calls) named))
      at false differ = outdated_other c differ named

outdated_hit : (p : Seen) (c d : CallerValue Filled) (k : ℕ) (x : CallId) (h : Hit) → StartsWith c.seen p → HasForgotNamed c k x h d → IsOutdated k p d.seen
outdated_hit p c d k x h begins w =
    let m = w.0 in let adds = w.2.adds in
    outdated_named m.number k x h p m.seen d.seen (starts_again p c.seen m.seen begins w.1.nothing.adds.grows.begins) w.1.right adds.lawful.legal adds.grows.begins adds.grows.own

-- a call that was current names the place, or is not current any more
pub outdated : (p : Seen) (c d : CallerValue Filled) (k : ℕ) (f : Forgot) → StartsWith c.seen p → ForgetsNamed c k f d → IsOutdated k p d.seen
outdated p c d k (forgot.Closed x) begins w = outdated_hit p c d k x hit.Closed begins w
outdated p c d k (forgot.Cleared x) begins w = outdated_hit p c d k x hit.Cleared begins w
outdated p c d k (forgot.Missed x) begins w = outdated_hit p c d k x hit.Missed begins w
outdated p c d k forgot.Idle begins w = λ x was is. let clash : None ≡ Some x = sym w.right ∙ is in cc
