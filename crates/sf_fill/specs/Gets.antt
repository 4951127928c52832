-- how gets end
use Rattle.std.specs.Prelude.{◌≡◌, ℕ, ◌⊎◌, List, Option, None, Result, Err}
use Rattle.sf_history.specs.declared.call.CallId.{CallId}
use Rattle.sf_group_rows.specs.Tokens.{CallerValue, LetterValue}
use Rattle.sf_fill_keys.specs.declared.key_space.KeyDesk.{KeyDesk}
use Rattle.sf_fill_keys.specs.declared.spot.Spot.{Spot}
use Rattle.sf_fill_keys.specs.Spaces.{SpaceId}
use Rattle.sf_fill_keys.specs.Spots.{IsSpotOfKey, IsRefusedSpot, IsSeeingSpace}
use Rattle.sf_dir.specs.declared.refusal.Refusal.{Refusal}
use Rattle.sf_loaders.specs.LoadPath.{LoadAnswer}
use Rattle.sf_fill_values.specs.declared.fault.LoadFault.TheVariants as fault
use Rattle.sf_fill_store.specs.declared.standing.Standing.{Standing}
use Rattle.sf_fill_store.specs.declared.standing.Standing.TheVariants.{Free, Owing}
use Rattle.sf_fill_counters.specs.declared.totals.GetCounts.{GetCounts}
use Rattle.sf_fill_values.specs.Answers.{GetAnswer, refusal_of}
use Rattle.sf_fill_values.specs.FillValue.{Filled}
use Rattle.sf_fill_counters.specs.GetCounts.{get_alone}
use Rattle.sf_fill_store.specs.Found.{Found, HasFound, HasFoundFrom}
use Rattle.sf_fill_store.specs.Replies.{Reply, reply_of}
use Rattle.sf_fill.specs.GetterValue.{GetterValue}
use Rattle.sf_fill.specs.Owing.{HasSettledUp}
use Rattle.sf_fill_values.specs.Settled.{HasLookedOn}
use Rattle.sf_fill_counters.specs.Totals.{with_counts}

-- a look for letters, which only a free caller makes
module _ {E : Type 0} where
  abbrev pub LooksFrom : Standing Filled → ℕ → Option (Result (LetterValue Filled) E) → Standing Filled → Type 0
  LooksFrom (Free c) place found (Free d) = HasLookedOn c place found d
  LooksFrom (Free c) place found (Owing s) = ⊥
  LooksFrom (Owing s) place found new = (found ≡ None) × (new ≡ Owing s)

module _ {L : Type 0} (path : CallId → L → LoadAnswer → L → Type 0) (draws : L → L → Type 0) (space : SpaceId) (key : List ℕ) where
  -- the key is refused, and nothing else is done
  pub record IsRefusedGet (c : CallerValue Filled) (desk after : KeyDesk) (old new : L) (reply : Reply) : Type 0 where
    pub refusal : Refusal
    pub cause : IsRefusedSpot space key desk after refusal
    pub unasked : new ≡ old
    pub reply_is : reply ≡ (Free c, get_alone, Err (refusal_of refusal))

  -- the key has a place, for which this was found
  pub record IsFoundGet (c : CallerValue Filled) (desk after : KeyDesk) (old new : L) (reply : Reply) : Type 0 where
    pub spot : Spot
    pub resolved : IsSpotOfKey space key desk after spot
    pub found : Found
    pub found_so : HasFound space key path draws spot c old new found
    pub reply_is : reply ≡ reply_of found

  -- a get of a free caller
  abbrev pub HasReplied : CallerValue Filled → KeyDesk → KeyDesk → L → L → Reply → Type 0
  HasReplied c desk after old new reply = IsRefusedGet c desk after old new reply ⊎ IsFoundGet c desk after old new reply

  -- the get of a caller that has settled up; where it owes letters still, the get is counted alone
  abbrev pub GetsFrom : Standing Filled → KeyDesk → KeyDesk → L → L → Reply → Type 0
  GetsFrom (Owing s) desk after old new reply = (after ≡ desk) × (new ≡ old) × (reply ≡ (Owing s, get_alone, Err fault.Memory))
  GetsFrom (Free c) desk after old new reply = IsSeeingSpace space desk after × HasReplied c desk after old new reply

  -- no cache had a letter for a free getter, which asked the group, and this came of it
  pub record HasAsked (spot : Spot) (old new : GetterValue L) (answer : GetAnswer) : Type 0 where
    pub caller : CallerValue Filled
    pub free : old.standing ≡ Free caller
    pub found : Found
    pub found_so : HasFoundFrom space key path draws spot caller old.loaders new.loaders found
    pub counts : GetCounts
    pub reply_is : (new.standing, counts, answer) ≡ reply_of found
    pub desk : new.desk ≡ old.desk
    pub counted : new.counted ≡ with_counts old.counted counts

  -- the get of a getter that has delivered what it could
  pub record GetsOnce (old new : GetterValue L) (answer : GetAnswer) : Type 0 where
    pub counts : GetCounts
    pub got : GetsFrom old.standing old.desk new.desk old.loaders new.loaders (new.standing, counts, answer)
    pub counted : new.counted ≡ with_counts old.counted counts

  -- what was owed is delivered first, if it can be
  pub record HasGot (old new : GetterValue L) (answer : GetAnswer) : Type 0 where
    pub middle : GetterValue L
    pub settled : HasSettledUp old middle
    pub counts : GetCounts
    pub got : GetsFrom middle.standing middle.desk new.desk middle.loaders new.loaders (new.standing, counts, answer)
    pub counted : new.counted ≡ with_counts old.counted counts
