-- what comes of a seat comes of its getter
use Rattle.std.proofs.Common.{◌≡◌, ℕ, true, false, Bool, List, Result, Ok, Err, refl, sym, ap, ◌∙◌, subst}
use Rattle.sf_group_rows.specs.Seen.{StartsWith}
use Rattle.sf_group_rows.specs.Tokens.{CallerValue, SettledValue}
use Rattle.sf_fill_counters.specs.declared.totals.Totals.{Totals}
use Rattle.sf_fill_keys.specs.declared.key_space.KeyDesk.{KeyDesk}
use Rattle.sf_fill_keys.specs.Spaces.{SpaceId}
use Rattle.sf_fill_store.specs.declared.forget.Forgot.{Forgot}
use Rattle.sf_fill_store.specs.declared.standing.Standing.{Standing}
use Rattle.sf_fill_store.specs.declared.standing.Standing.TheVariants.{Free, Owing}
use Rattle.sf_fill_store.specs.Logs.{LogValue, logged_by}
use Rattle.sf_fill_store.specs.Standings.{is_owing, seen_of}
use Rattle.sf_fill_values.specs.declared.fault.LoadFault.{LoadFault}
use Rattle.sf_fill_values.specs.FillValue.{Filled}
use Rattle.sf_fill.specs.Fresh.{HasAdded, delivered_by}
use Rattle.sf_fill.specs.GetterValue.{GetterValue, with_loaders}
use Rattle.sf_fill.specs.Owing.{HasDelivered, HasSettledUp}
use Rattle.sf_fill.specs.Purges.{ForgetsAll}
use Rattle.sf_fill.specs.Reloads.{HasReloaded}
use Rattle.sf_fill.specs.Renewing.{Renews}
use Rattle.sf_fill.specs.Seats.{IsFreeHere, IsHere, owes_in, standing_in}
use Rattle.sf_fill.specs.declared.chair.Chair.{Chair}
use Rattle.sf_fill.specs.declared.chair.Chair.TheVariants as chairs
use Rattle.sf_fill.proofs.Fresh.{delivered}

abbrev Seat : Type 0
Seat = GetterValue (Unit {0})

pub settled_with : {L : Type 0} (old new : Seat) (loaders : L) → HasSettledUp old new → HasSettledUp (with_loaders old loaders) (with_loaders new loaders)
settled_with old new loaders h = record { delivered = h.delivered; rest = ap (λ (s : Seat). with_loaders s loaders) h.rest }

module _ {L : Type 0} (old new : Seat) (loaders : L) (getter : GetterValue L) (is : with_loaders old loaders ≡ getter) where
  stands : old.standing ≡ getter.standing
  stands = ap (λ (g : GetterValue L). g.standing) is

  pub settled_getter : HasSettledUp old new → HasSettledUp getter (with_loaders new loaders)
  settled_getter h = subst (λ (g : GetterValue L). HasSettledUp g (with_loaders new loaders)) is (settled_with old new loaders h)

  pub settled_adds : HasSettledUp old new → HasAdded getter.standing new.standing (delivered_by getter.standing new.standing)
  settled_adds h = subst (λ (s : Standing Filled). HasAdded s new.standing (delivered_by s new.standing)) stands (delivered old.standing new.standing h.delivered)

  pub settled_log : new.log ≡ logged_by old.log (delivered_by old.standing new.standing) → new.log ≡ logged_by getter.log (delivered_by getter.standing new.standing)
  settled_log h = h ∙ ap (λ (g : GetterValue L). logged_by g.log (delivered_by g.standing new.standing)) is

  pub reloaded_getter : (space : SpaceId) (key : List ℕ) (answer : Result Forgot LoadFault) → HasReloaded space key old new answer → HasReloaded space key getter (with_loaders new loaders) answer
  reloaded_getter space key answer h = subst (λ (g : GetterValue L). HasReloaded space key g (with_loaders new loaders) answer) is (record {
    middle = with_loaders h.middle loaders;
    settled = record { delivered = h.settled.delivered; rest = ap (λ (s : Seat). with_loaders s loaders) h.settled.rest };
    reloaded = h.reloaded;
    rest = ap (λ (s : Seat). with_loaders s loaders) h.rest;
  })

  forgets_with : {E : Type 0} (places : ℕ) (answer : Result Unit E) → ForgetsAll places old new answer → ForgetsAll places (with_loaders old loaders) (with_loaders new loaders) answer
  forgets_with places (Ok done) h = (ap (λ (s : Seat). with_loaders s loaders) h.0, h.1)
  forgets_with places (Err e) h = (ap (λ (s : Seat). with_loaders s loaders) h.0, h.1, h.2)

  pub forgets_getter : {E : Type 0} (places : ℕ) (answer : Result Unit E) → ForgetsAll places old new answer → ForgetsAll places getter (with_loaders new loaders) answer
  forgets_getter places answer h = subst (λ (g : GetterValue L). ForgetsAll places g (with_loaders new loaders) answer) is (forgets_with places answer h)

  renews_with : (spare back : CallerValue Filled) (done : Bool) → Renews old spare done new back → Renews (with_loaders old loaders) spare done (with_loaders new loaders) back
  renews_with spare back true h = record { caller = h.caller; was = h.was; fresh = h.fresh; met = h.met; rest = ap (λ (s : Seat). with_loaders s loaders) h.rest }
  renews_with spare back false h = (h.0, ap (λ (s : Seat). with_loaders s loaders) h.1, h.2)

  pub renews_getter : (spare back : CallerValue Filled) (done : Bool) → Renews old spare done new back → Renews getter spare done (with_loaders new loaders) back
  renews_getter spare back done h = subst (λ (g : GetterValue L). Renews g spare done (with_loaders new loaders) back) is (renews_with spare back done h)

  pub seen_getter : StartsWith (seen_of new.standing) (seen_of old.standing) → StartsWith (seen_of new.standing) (seen_of getter.standing)
  seen_getter h = subst (λ (s : Standing Filled). StartsWith (seen_of new.standing) (seen_of s)) stands h

-- a caller that is here and owes nothing is free
pub free_here : (chair : Chair Filled) → IsHere chair → is_owing (standing_in chair) ≡ false → IsFreeHere chair
free_here (chairs.Free c) here free = tt
free_here (chairs.Owing s) here free = cc
free_here chairs.Away here free = here

-- over the parts of a seat
module _ (seat : Seat) (desk : KeyDesk) (chair : Chair Filled) (tallies : Totals) (log : LogValue)
    (is : record { desk = desk; standing = standing_in chair; loaders = tt; counted = tallies; log = log } ≡ seat) where
  -- no letters are owed, or some
  owes_none : (c : Chair Filled) → owes_in c ≡ false → is_owing (standing_in c) ≡ false
  owes_none (chairs.Free c) none = refl
  owes_none (chairs.Owing s) none = none
  owes_none chairs.Away none = refl

  owes_some : (c : Chair Filled) → owes_in c ≡ true → is_owing (standing_in c) ≡ true
  owes_some (chairs.Free c) some = some
  owes_some (chairs.Owing s) some = refl
  owes_some chairs.Away some = some

  pub some_owed : owes_in chair ≡ true → is_owing seat.standing ≡ true
  some_owed some = ap (λ (s : Seat). is_owing s.standing) (sym is) ∙ owes_some chair some

  pub none_owed : owes_in chair ≡ false → is_owing seat.standing ≡ false
  none_owed none = ap (λ (s : Seat). is_owing s.standing) (sym is) ∙ owes_none chair none

  pub free_if_none : IsHere chair → owes_in chair ≡ false → IsFreeHere chair
  free_if_none here none = free_here chair here (owes_none chair none)

  pub free_seat : IsHere chair → is_owing seat.standing ≡ false → IsFreeHere chair
  free_seat here free = free_here chair here (ap (λ (s : Seat). is_owing s.standing) is ∙ free)

  -- some are, and their delivery goes on
  module _ (s : SettledValue Filled) (owes : chair ≡ chairs.Owing s) (after : Standing Filled) (logged : LogValue) where
    owed : Owing s ≡ seat.standing
    owed = sym (ap standing_in owes) ∙ ap (λ (x : Seat). x.standing) is

    pub settled_seat : HasDelivered (Owing s) after → HasSettledUp seat (record { desk = desk; standing = after; loaders = tt; counted = tallies; log = logged })
    settled_seat h = record {
      delivered = subst (λ (x : Standing Filled). HasDelivered x after) owed h;
      rest = ap (λ (x : Seat). let v : Seat = record x { standing = after; log = logged } in v) is;
    }

    pub logged_seat : logged ≡ logged_by log (delivered_by (Owing s) after) → logged ≡ logged_by seat.log (delivered_by seat.standing after)
    logged_seat h = h ∙ (ap (λ (x : Standing Filled). logged_by log (delivered_by x after)) owed ∙ ap (λ (x : Seat). logged_by x.log (delivered_by seat.standing after)) is)
