-- who has learnt of a reload gets nothing that was loaded before it
use Rattle.std.proofs.Common.{◌≡◌, ◌≢◌, ℕ, nat_eq, true, false, List, [], ◌∷◌, ◌++◌, Option, Some, refl, sym, ap, ◌∙◌, subst, append_assoc, eq-eqb}
use Rattle.std.proofs.lemmas.Bool.{or_left, or_right, and_from}
use Rattle.std.proofs.lemmas.List.Folds.{list_any-append}
use Rattle.std.specs.List.{list_any}
use Rattle.sf_history.specs.declared.call.CallId.{CallId}
use Rattle.sf_history.specs.declared.event.Event.{Event}
use Rattle.sf_history.specs.declared.event.Event.TheVariants.{Lead, ForgetCall}
use Rattle.sf_history.specs.declared.event.Hit.TheVariants as hit
use Rattle.sf_history.specs.History.{own_events, current_call}
use Rattle.sf_history.specs.Legal.{IsLegal}
use Rattle.sf_group_rows.specs.Seen.{StartsWith, Stands}
use Rattle.sf_group_rows.specs.Unforgotten.{forgets, IsUnforgotten}
use Rattle.sf_group_rows.proofs.AddsAgain.{starts_again}
use Rattle.sf_group_rows.proofs.Moments.{legal_before, stands_more, stands_own}
use Rattle.sf_fill_store.specs.declared.forget.Forgot.{Forgot}
use Rattle.sf_fill_store.specs.declared.forget.Forgot.TheVariants as forgot
use Rattle.sf_fill_values.specs.FillValue.{Filled}
use Rattle.sf_fill.specs.Fresh.{handed_by}
use Rattle.sf_fill_store.specs.Forgets.{forgot_by}
use Rattle.sf_fill_keys.specs.Spots.{spot_place}
use Rattle.sf_fill_store.specs.Standings.{number_of, seen_of}
use Rattle.sf_fill.specs.Notes.{IsLedAfter, IsLoadedAfter, NotesCarryReloads, NotesCarryPurges}
use Rattle.sf_fill.proofs.Outdated.{current_names, names_more, past_after}

abbrev Seen : Type 0
Seen = List (Event ℕ Filled)

-- what forgets the place is found
found : (k : ℕ) (e : Event ℕ Filled) (x y : Seen) → forgets k e ≡ true → list_any (forgets k) (x ++ e ∷ y) ≡ true
found k e x y on = list_any-append (forgets k) x (e ∷ y) ∙ or_right (list_any (forgets k) x) _ (or_left (forgets k e) _ on)

split : (k by : ℕ) (own : Option CallId) (c : CallId) (e : Event ℕ Filled) (x y p q : Seen) → forgets k e ≡ true → x ++ e ∷ y ≡ p ++ Lead by k c own ∷ q → list_any (forgets k) q ≡ false → Stands e p
split k by own c e [] y [] q on is none =
    let same : e ≡ Lead by k c own = cc in
    let clash : true ≡ false = sym on ∙ ap (forgets k) same in
    cc
split k by own c e [] y (d ∷ p) q on is none = let same : e ≡ d = cc in ([], p, ap (λ z. z ∷ p) (sym same))
split k by own c e (d ∷ x) y [] q on is none =
    let rest : x ++ e ∷ y ≡ q = cc in
    let clash : true ≡ false = sym (found k e x y on) ∙ (ap (list_any (forgets k)) rest ∙ none) in
    cc
split k by own c e (d ∷ x) y (f ∷ p) q on is none =
    let rest : x ++ e ∷ y ≡ p ++ Lead by k c own ∷ q = cc in
    let s = split k by own c e x y p q on rest none in
    (f ∷ s.0, s.1, ap (λ (l : Seen). f ∷ l) s.2)

-- what no Forget passed was led after each that there is
led_after : (k : ℕ) (c : CallId) (e : Event ℕ Filled) (h : Seen) → forgets k e ≡ true → Stands e h → IsUnforgotten k c h → IsLedAfter e k c h
led_after k c e h on s u = record {
  before = u.before;
  by = u.by;
  own = u.own;
  after = u.after;
  led = u.led;
  stands = split k u.by u.own c e s.0 s.1 u.before u.after on (sym s.2 ∙ u.led) u.since;
}

-- the last own event stands in the list
own_stands : (a : ℕ) (old new handed : Seen) (e : Event ℕ Filled) → own_events a new ≡ own_events a old ++ (handed ++ e ∷ []) → Stands e new
own_stands a old new handed e own = stands_own a new (own_events a old ++ handed) [] e (own ∙ sym (append_assoc (own_events a old) handed (e ∷ [])))

-- the Forget of a reload stands in what its getter has then seen, so what is unforgotten later was led after it
loaded_after : (a k : ℕ) (f : Forgot) (old new handed moment : Seen) (root : CallId) → own_events a new ≡ own_events a old ++ (handed ++ forgot_by a k f) → StartsWith moment new
    → IsUnforgotten k root moment → IsLoadedAfter a k f root moment
loaded_after a k (forgot.Closed c) old new handed moment root own begins u =
    let e : Event ℕ Filled = ForgetCall a k c hit.Closed in
    led_after k root e moment (and_from _ _ (eq-eqb k k refl) refl) (stands_more e new moment begins (own_stands a old new handed e own)) u
loaded_after a k (forgot.Cleared c) old new handed moment root own begins u =
    let e : Event ℕ Filled = ForgetCall a k c hit.Cleared in
    led_after k root e moment (and_from _ _ (eq-eqb k k refl) refl) (stands_more e new moment begins (own_stands a old new handed e own)) u
loaded_after a k (forgot.Missed c) old new handed moment root own begins u = tt
loaded_after a k forgot.Idle old new handed moment root own begins u = tt

-- the call that was current when the reload began is never current again
other_call : (k : ℕ) (old new moment : Seen) (c : CallId) → IsLegal nat_eq moment → StartsWith new old → StartsWith moment new
    → (current_call nat_eq old k ≡ Some c → current_call nat_eq new k ≢ Some c) → current_call nat_eq moment k ≡ Some c → current_call nat_eq old k ≢ Some c
other_call k old new moment c legal first then ended now was =
    past_after moment new k c legal then (names_more new old c first (current_names old k c was)) (ended was) now

pub notes_carry_reloads : (L M : Type 0) → NotesCarryReloads L M
notes_carry_reloads L M d key old new after delivered came_to r n told other learnt has then l legal fresh =
    let k = spot_place r.spot in
    let shown : StartsWith (seen_of learnt.standing) (seen_of new.standing) = subst (λ (h : Seen). StartsWith (seen_of learnt.standing) h) told.shown has.shows in
    let begins : StartsWith fresh.moment (seen_of new.standing) = starts_again (seen_of new.standing) (seen_of learnt.standing) fresh.moment shown fresh.begins in
    record {
      other = other_call k (seen_of old.standing) (seen_of new.standing) fresh.moment l.call (legal_before then fresh.moment legal fresh.within) r.adds.grows.begins begins (r.outdated l.call) fresh.current;
      loaded = loaded_after (number_of old.standing) k came_to (seen_of old.standing) (seen_of new.standing) (handed_by old.standing delivered) fresh.moment l.value.root r.adds.grows.own begins fresh.rooted;
    }

pub notes_carry_purges : (L M : Type 0) → NotesCarryPurges L M
notes_carry_purges L M places handed old new after p n told other learnt has k some few then l legal fresh =
    let shown : StartsWith (seen_of learnt.standing) (seen_of new.standing) = subst (λ (h : Seen). StartsWith (seen_of learnt.standing) h) told.shown has.shows in
    let begins : StartsWith fresh.moment (seen_of new.standing) = starts_again (seen_of new.standing) (seen_of learnt.standing) fresh.moment shown fresh.begins in
    record {
      other = other_call k (seen_of old.standing) (seen_of new.standing) fresh.moment l.call (legal_before then fresh.moment legal fresh.within) p.adds.grows.begins begins (p.outdated k some few l.call) fresh.current;
      loaded = λ e on stands. led_after k l.value.root e fresh.moment on (stands_more e (seen_of new.standing) fresh.moment begins stands) fresh.rooted;
    }
