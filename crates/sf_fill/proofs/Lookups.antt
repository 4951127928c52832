-- what a look found, over the parts of a getter
use Rattle.std.proofs.Common.{◌≡◌, ℕ, List, Some, None, Result, Ok, Err, IfOk, inl, inr, refl, sym, ap, ◌∙◌, subst}
use Rattle.std.specs.declared.alloc.AllocError.{AllocError}
use Rattle.sf_group_rows.specs.Tokens.{CallerValue, GroupValue, LetterValue}
use Rattle.sf_history.specs.declared.call.CallId.{CallId}
use Rattle.sf_fill_counters.specs.declared.totals.Totals.{Totals}
use Rattle.sf_fill_counters.specs.GetCounts.{get_alone, hit_counts}
use Rattle.sf_fill_counters.specs.Totals.{with_counts}
use Rattle.sf_fill_keys.specs.declared.key_place.KeyPlace.{KeyPlace}
use Rattle.sf_fill_keys.specs.declared.key_place.KeyPlace.TheVariants as places
use Rattle.sf_fill_keys.specs.declared.key_space.KeyDesk.{KeyDesk}
use Rattle.sf_fill_keys.specs.declared.spot.Spot.{Spot}
use Rattle.sf_fill_keys.specs.Spaces.{SpaceId}
use Rattle.sf_fill_keys.specs.Spots.{IsSeeingSpace, IsSpotOfKey, place_at, spot_at, spot_place}
use Rattle.sf_loaders.specs.LoadPath.{LoadAnswer}
use Rattle.sf_fill_store.specs.Found.{Unmade}
use Rattle.sf_fill_store.specs.declared.standing.Standing.{Standing}
use Rattle.sf_fill_store.specs.declared.standing.Standing.TheVariants.{Free}
use Rattle.sf_fill_store.specs.Logs.{LogValue}
use Rattle.sf_fill_values.specs.Answers.{GetAnswer}
use Rattle.sf_fill_values.specs.declared.fault.LoadFault.TheVariants as fault
use Rattle.sf_fill_values.specs.FillValue.{Filled}
use Rattle.sf_fill_values.specs.Settled.{HasLookedOn, HasOnlyLooked}
use Rattle.sf_fill_values.proofs.Looks.{looked_lent_on, still_looked}
use Rattle.sf_fill.specs.declared.hit.Hit.{Hit}
use Rattle.sf_fill.specs.declared.hit.Hit.TheVariants.{Near, Far}
use Rattle.sf_fill.specs.declared.chair.Chair.{Chair}
use Rattle.sf_fill.specs.declared.chair.Chair.TheVariants as chairs
use Rattle.sf_fill.specs.GetterValue.{GetterValue, with_loaders}
use Rattle.sf_fill.specs.Seats.{IsFreeHere, standing_in}
use Rattle.sf_fill.specs.Gets.{GetsOnce, HasAsked, LooksFrom}
use Rattle.sf_fill.specs.Hits.{IsAbsent, IsPresent, hit_answer}
use Rattle.sf_fill.specs.Lookups.{HasFoundHit, ShowsHit}
use Rattle.sf_fill.proofs.Once.{absent_getter, asked_getter, found_at_hand, only_looked, present_getter}

-- what a hit answers, by what the look found
hit_found : {D N O : Type 0} (c d : CallerValue Filled) (place : ℕ) (hit : Hit D N O) (answer : GetAnswer) → HasFoundHit c place d hit → ShowsHit hit answer
    → (found : Result (LetterValue Filled) AllocError) × HasLookedOn c place (Some found) d × (answer ≡ hit_answer found)
hit_found c d place (Near m) answer h shown = (shown.0, (c, inl refl, looked_lent_on AllocError c d place h.0 m.now shown.0 h.1 h.2 shown.1), shown.2)
hit_found c d place (Far found) answer h shown = (found, h, shown)

looks_only : (s : Standing Filled) (c d : CallerValue Filled) (place : ℕ) → s ≡ Free c → HasOnlyLooked c d → LooksFrom {E = AllocError} s place None (Free d)
looks_only s c d place free only = subst (λ (x : Standing Filled). LooksFrom {E = AllocError} x place None (Free d)) (sym free) (c, inl refl, only)

-- a key's place is its spot's
pub place_spot : (key : List ℕ) (at : KeyPlace) → place_at at ≡ spot_place (spot_at key at)
place_spot key (places.Directory place) = refl
place_spot key (places.Hashed number) = refl

-- who looked is of the group still
pub looked_group : (g : GroupValue) (c d : CallerValue Filled) → c.group ≡ g → HasOnlyLooked c d → d.group ≡ g
looked_group g c d of only = (still_looked c d only).group ∙ of

only_found : {D N O : Type 0} (c d : CallerValue Filled) (place : ℕ) (hit : Hit D N O) → HasFoundHit c place d hit → HasOnlyLooked c d
only_found c d place (Near m) h = inr h.1.nothing
only_found c d place (Far found) h = only_looked c d place (Some found) h

pub found_group : {D N O : Type 0} (g : GroupValue) (c d : CallerValue Filled) (place : ℕ) (hit : Hit D N O) → c.group ≡ g → HasFoundHit c place d hit → d.group ≡ g
found_group g c d place hit of h = looked_group g c d of (only_found c d place hit h)

module _ {L : Type 0} (space : SpaceId) (key : List ℕ) (old : GetterValue L) (desk : KeyDesk) (standing : Standing Filled) (loaders : L) (tallies : Totals) (log : LogValue)
    (is : record { desk = desk; standing = standing; loaders = loaders; counted = tallies; log = log } ≡ old) (after : KeyDesk) (seeing : IsSeeingSpace space desk after)
    (place : ℕ) (c d : CallerValue Filled) (free : standing ≡ Free c) (counted : Totals) where
  -- a letter was at hand
  pub hit_present : {D N O : Type 0} (spot : Spot) → IsSpotOfKey space key desk after spot → place ≡ spot_place spot → counted ≡ with_counts tallies hit_counts
      → (hit : Hit D N O) (answer : GetAnswer) → HasFoundHit c place d hit → ShowsHit hit answer
      → IsPresent space key old (record { desk = after; standing = Free d; loaders = loaders; counted = counted; log = log }) answer
  hit_present spot resolved at counts hit answer h shown =
      let found = hit_found c d place hit answer h shown in
      present_getter space old desk after standing loaders tallies log is seeing key spot place (record { desk = after; standing = Free d; loaders = loaders; counted = counted; log = log }) answer resolved at
      (found_at_hand place place (record { desk = after; standing = standing; loaders = loaders; counted = tallies; log = log }) after standing loaders tallies log c d refl free refl counted found.0 answer found.1 found.2 counts)

  -- none was at hand
  pub hit_absent : HasOnlyLooked c d → counted ≡ tallies → IsAbsent space old (record { desk = after; standing = Free d; loaders = loaders; counted = counted; log = log })
  hit_absent only stays =
      absent_getter space old desk after standing loaders tallies log is seeing place (record { desk = after; standing = Free d; loaders = loaders; counted = counted; log = log })
      (record { looked = looks_only standing c d place free only; rest = ap (λ (t : Totals). let v : GetterValue L = record { desk = after; standing = Free d; loaders = loaders; counted = t; log = log } in v) stays })

  -- and the group was asked
  pub hit_asked : (path : CallId → L → LoadAnswer → L → Type 0) (draws : L → L → Type 0) (spot : Spot) → IsSpotOfKey space key desk after spot → place ≡ spot_place spot → HasOnlyLooked c d → counted ≡ tallies
      → (new : GetterValue L) (answer : GetAnswer) → HasAsked path draws space key spot (record { desk = after; standing = Free d; loaders = loaders; counted = counted; log = log }) new answer
      → GetsOnce path draws space key old new answer
  hit_asked path draws spot resolved at only stays new answer asked =
      asked_getter path draws space key old desk standing loaders tallies log is AllocError after (record { desk = after; standing = Free d; loaders = loaders; counted = counted; log = log }) spot place seeing resolved at
      (ap (λ (t : Totals). let v : GetterValue L = record { desk = after; standing = Free d; loaders = loaders; counted = t; log = log } in v) stays)
      new answer (looks_only standing c d place free only) asked

-- memory for the key was refused to a free caller
pub asked_unmade : {L : Type 0} (path : CallId → L → LoadAnswer → L → Type 0) (draws : L → L → Type 0) (space : SpaceId) (key : List ℕ) (spot : Spot) (loaders : L) (seat : GetterValue (Unit {0})) (desk : KeyDesk)
    (chair : Chair Filled) (tallies : Totals) (log : LogValue) → record { desk = desk; standing = standing_in chair; loaders = tt; counted = tallies; log = log } ≡ seat → IsFreeHere chair
    → (counted : Totals) → counted ≡ with_counts tallies get_alone
    → HasAsked path draws space key spot (with_loaders seat loaders) (record { desk = desk; standing = standing_in chair; loaders = loaders; counted = counted; log = log }) (Err fault.Memory)
asked_unmade path draws space key spot loaders seat desk (chairs.Free c) tallies log is here counted count = record {
  caller = c;
  free = ap (λ (s : GetterValue (Unit {0})). s.standing) (sym is);
  found = Unmade c;
  found_so = (refl, refl);
  counts = get_alone;
  reply_is = refl;
  desk = ap (λ (s : GetterValue (Unit {0})). s.desk) is;
  counted = count ∙ ap (λ (s : GetterValue (Unit {0})). with_counts s.counted get_alone) is;
}
asked_unmade path draws space key spot loaders seat desk (chairs.Owing o) tallies log is here counted count = absurd here
asked_unmade path draws space key spot loaders seat desk chairs.Away tallies log is here counted count = absurd here
