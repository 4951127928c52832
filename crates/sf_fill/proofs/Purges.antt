-- Forgets of places in turn
use Rattle.std.proofs.Common.{◌≡◌, ℕ, suc, ◌+◌, ◌≤◌, ◌<◌, Bool, true, false, not, List, [], ◌++◌, Result, Ok, Err, refl, sym, ap, ◌∙◌, subst, append_assoc, arith, inl, inr, ◌⊎◌}
use Rattle.std.proofs.Math.Nat.{eq-or-lt_of_le}
use Rattle.sf_history.specs.declared.event.Event.{Event}
use Rattle.sf_group_rows.specs.Tokens.{GroupValue, CallerValue}
use Rattle.sf_fill_keys.specs.declared.key_space.KeyDesk.{KeyDesk}
use Rattle.sf_fill_store.specs.declared.forget.Forgot.{Forgot}
use Rattle.sf_fill_store.specs.declared.standing.Standing.{Standing}
use Rattle.sf_fill_store.specs.declared.standing.Standing.TheVariants.{Free, Owing}
use Rattle.sf_fill_values.specs.FillValue.{Filled}
use Rattle.sf_fill.specs.Fresh.{HasAdded, IsOutdated, delivered_by, handed_by}
use Rattle.sf_fill_store.specs.Forgets.{forgot_by}
use Rattle.sf_fill.specs.GetterValue.{GetterValue}
use Rattle.sf_fill_store.specs.Standings.{is_owing, number_of, seen_of}
use Rattle.sf_fill_store.specs.Logs.{HasLogged, LogValue, logged_by}
use Rattle.sf_fill.specs.Purges.{ForgetsAll, HasForgottenFirst}
use Rattle.sf_fill_counters.specs.declared.totals.Totals.{Totals}
use Rattle.sf_fill.specs.Owing.{HasSettledUp}
use Rattle.sf_fill_store.specs.Forgets.{ForgetsNamed}
use Rattle.sf_fill.specs.Seats.{standing_in}
use Rattle.sf_fill.specs.declared.chair.Chair.{Chair}
use Rattle.sf_fill.specs.declared.chair.Chair.TheVariants as chairs
use Rattle.sf_fill.proofs.Fresh.{added_none, added_more, delivered, forget_moved, none_forgot}
use Rattle.sf_fill.proofs.LogSteps.{logs_delivered}
use Rattle.sf_fill.proofs.Outdated.{current_names, names_more, outdated, past_after}

abbrev Seen : Type 0
Seen = List (Event ℕ Filled)

pub forgotten_none : (handed : Seen) (old : Standing Filled) (c : CallerValue Filled) → HasAdded old (Free c) handed → HasForgottenFirst 0 handed old (Free c)
forgotten_none handed old c adds = record {
  forgets = [];
  each = refl;
  adds = added_none old (Free c) handed adds;
  outdated = λ k some few. absurd (omega (arith, some, few));
}

pub forgotten_next : (n : ℕ) (handed : Seen) (old : Standing Filled) (c d : CallerValue Filled) (f : Forgot) → HasForgottenFirst n handed old (Free c) → ForgetsNamed c (suc n) f d → HasForgottenFirst (suc n) handed old (Free d)
forgotten_next n handed old c d f h w =
    let moved = forget_moved c d (suc n) f w in
    let one : Seen = forgot_by c.number (suc n) f in
    let all : HasAdded old (Free d) ((handed ++ h.forgets) ++ one) = added_more old (Free c) (Free d) (handed ++ h.forgets) one 0 h.adds moved (none_forgot c.number (suc n) f) in
    record {
      forgets = h.forgets ++ forgot_by (number_of old) (suc n) f;
      each = (h.forgets, f, h.each, refl);
      adds = subst (λ (i : ℕ). HasAdded old (Free d) (handed ++ (h.forgets ++ forgot_by i (suc n) f))) h.adds.number
          (subst (λ (x : Seen). HasAdded old (Free d) x) (append_assoc handed h.forgets one) all);
      outdated = λ k some few. at k some (eq-or-lt_of_le few);
    }
  where
    at : (k : ℕ) → 1 ≤ k → (k ≡ suc n) ⊎ (k < suc n) → IsOutdated k (seen_of old) d.seen
    at k some (inl is) = subst (λ (i : ℕ). IsOutdated i (seen_of old) d.seen) (sym is) (outdated (seen_of old) c d (suc n) f h.adds.grows.begins w)
    at k some (inr few) = λ x was. past_after d.seen c.seen k x (forget_moved c d (suc n) f w).adds.lawful.legal (forget_moved c d (suc n) f w).adds.grows.begins
        (names_more c.seen (seen_of old) x h.adds.grows.begins (current_names (seen_of old) k x was)) (h.outdated k some (omega (arith, few)) x was)

next : (n : ℕ) → n + 1 ≡ suc n
next n = omega arith

pub forgotten_on : (g : GroupValue) (n place : ℕ) (handed : Seen) (old : Standing Filled) (c d : CallerValue Filled) (f : Forgot) → c.group ≡ g → HasForgottenFirst n handed old (Free c)
    → place ≡ n + 1 → ForgetsNamed c place f d → (d.group ≡ g) × HasForgottenFirst (n + 1) handed old (Free d)
forgotten_on g n place handed old c d f of h is w = (
  (forget_moved c d place f w).group ∙ of,
  subst (λ (k : ℕ). HasForgottenFirst k handed old (Free d)) (sym (next n)) (forgotten_next n handed old c d f h (subst (λ (k : ℕ). ForgetsNamed c k f d) (is ∙ next n) w)),
)

rest : {L : Type 0} (old middle : GetterValue L) (desk : KeyDesk) (standing : Standing Filled) (loaders : L) (tallies : Totals) (log logged : LogValue) → HasSettledUp old middle
    → record { desk = desk; standing = standing; loaders = loaders; counted = tallies; log = log } ≡ middle
    → (new : Standing Filled) → record { desk = desk; standing = new; loaders = loaders; counted = tallies; log = logged } ≡ record old { standing = new; log = logged }
rest old middle desk standing loaders tallies log logged settled is new = ap (λ (m : GetterValue _). let v : GetterValue _ = record m { standing = new; log = logged } in v) (is ∙ settled.rest)

module _ {L E : Type 0} (places : ℕ) (old middle : GetterValue L) (desk : KeyDesk) (standing : Standing Filled) (loaders : L) (tallies : Totals) (log logged : LogValue)
    (settled : HasSettledUp old middle) (is : record { desk = desk; standing = standing; loaders = loaders; counted = tallies; log = log } ≡ middle) where
  pub forgets_first : (n : ℕ) (d : CallerValue Filled) (done : Unit {0}) (out : Standing Filled × Result Unit E) → n ≡ places → (first : HasForgottenFirst n (handed_by old.standing true) old.standing (Free d))
      → logged ≡ logged_by old.log (handed_by old.standing true ++ first.forgets)
      → out ≡ (Free d, Ok done) → ForgetsAll places old (record { desk = desk; standing = out.0; loaders = loaders; counted = tallies; log = logged }) out.1
  forgets_first n d done out all first logs ends =
      subst (λ (o : Standing Filled × Result Unit E). ForgetsAll places old (record { desk = desk; standing = o.0; loaders = loaders; counted = tallies; log = logged }) o.1) (sym ends) (rest old middle desk standing loaders tallies log logged settled is (Free d), subst (λ (k : ℕ). (h : HasForgottenFirst k (handed_by old.standing true) old.standing (Free d)) × (logged ≡ logged_by old.log (handed_by old.standing true ++ h.forgets))) all (first, logs))

-- before the first one
pub forgotten_start : {L : Type 0} (old middle : GetterValue L) (desk : KeyDesk) (standing : Standing Filled) (loaders : L) (tallies : Totals) (log : LogValue) (c : CallerValue Filled)
    → record { desk = desk; standing = standing; loaders = loaders; counted = tallies; log = log } ≡ middle
    → HasAdded old.standing middle.standing (delivered_by old.standing middle.standing) → standing ≡ Free c → HasForgottenFirst 0 (handed_by old.standing true) old.standing (Free c)
forgotten_start old middle desk standing loaders tallies log c is adds free =
    let stands : middle.standing ≡ Free c = sym (ap (λ (m : GetterValue _). m.standing) is) ∙ free in
    forgotten_none (handed_by old.standing true) old.standing c (subst (λ (m : Standing Filled). HasAdded old.standing m (delivered_by old.standing m)) stands adds)

-- where letters are owed still
pub forgets_none : {L E : Type 0} (places : ℕ) (old middle : GetterValue L) (e : E) → HasSettledUp old middle → middle.log ≡ logged_by old.log (delivered_by old.standing middle.standing) → is_owing middle.standing ≡ true
    → ForgetsAll places old middle (Err e)
forgets_none places old middle e settled handed owes =
    let none : not (is_owing middle.standing) ≡ false = ap not owes in (
      settled.rest,
      subst (λ (b : Bool). HasAdded old.standing middle.standing (handed_by old.standing b)) none (delivered old.standing middle.standing settled.delivered),
      handed ∙ ap (λ (b : Bool). logged_by old.log (handed_by old.standing b)) none,
    )

-- before the first one, over the parts of a seat that has settled up
module _ (old middle : GetterValue (Unit {0})) (desk : KeyDesk) (chair : Chair Filled) (tallies : Totals) (log : LogValue)
    (is : record { desk = desk; standing = standing_in chair; loaders = tt; counted = tallies; log = log } ≡ middle) (c : CallerValue Filled) (free : chair ≡ chairs.Free c)
    (settled : HasSettledUp old middle) where
  pub purge_from : HasForgottenFirst 0 (handed_by old.standing true) old.standing (Free c)
  purge_from = forgotten_start old middle desk (standing_in chair) tt tallies log c is (delivered old.standing middle.standing settled.delivered) (ap standing_in free)

  pub purge_logged : middle.log ≡ logged_by old.log (delivered_by old.standing middle.standing) → HasLogged (number_of old.standing) (seen_of old.standing) c.seen old.log log
  purge_logged handed =
      subst (λ (x : Chair Filled). HasLogged (number_of old.standing) (seen_of old.standing) (seen_of (standing_in x)) old.log log) free
      (subst (λ (m : GetterValue (Unit {0})). HasLogged (number_of old.standing) (seen_of old.standing) (seen_of m.standing) old.log m.log) (sym is)
      (logs_delivered old.standing middle.standing old.log middle.log settled.delivered handed))
