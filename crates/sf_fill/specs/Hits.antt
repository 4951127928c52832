-- gets that a letter at hand answers, and looks that find none
use Rattle.std.specs.Prelude.{◌≡◌, ℕ, List, Option, None, Some, Result, Ok, Err, IfOk, IfSome}
use Rattle.std.specs.declared.alloc.AllocError.{AllocError}
use Rattle.sf_group_rows.specs.Tokens.{LetterValue}
use Rattle.sf_history.specs.declared.call.CallId.{CallId}
use Rattle.sf_fill_keys.specs.declared.key_place.KeyPlace.{KeyPlace}
use Rattle.sf_fill_keys.specs.declared.spot.Spot.{Spot}
use Rattle.sf_fill_keys.specs.Spaces.{SpaceId}
use Rattle.sf_fill_keys.specs.Spots.{IsSeeingSpace, IsSpotOfKey, place_at, spot_key, spot_place}
use Rattle.sf_fill_values.specs.declared.fault.LoadFault.TheVariants as fault
use Rattle.sf_fill_values.specs.FillValue.{Filled}
use Rattle.sf_fill_counters.specs.GetCounts.{hit_counts}
use Rattle.sf_fill_values.specs.Answers.{GetAnswer, IsLoadedFor, answer_in}
use Rattle.sf_fill.specs.Gets.{LooksFrom}
use Rattle.sf_fill.specs.GetterValue.{GetterValue}
use Rattle.sf_fill_counters.specs.Totals.{with_counts}

-- what is answered of a letter at hand; its copy may have been refused memory
abbrev pub hit_answer : Result (LetterValue Filled) AllocError → GetAnswer
hit_answer (Ok l) = answer_in l
hit_answer (Err refused) = Err fault.Memory

module _ {L : Type 0} where
  -- a look at the place found a current letter, which is answered and counted as a hit; nothing else changes
  pub record IsAtHand (place : ℕ) (old new : GetterValue L) (answer : GetAnswer) : Type 0 where
    pub found : Result (LetterValue Filled) AllocError
    pub looked : LooksFrom old.standing place (Some found) new.standing
    pub answer_is : answer ≡ hit_answer found
    pub rest : new ≡ record old { standing = new.standing; counted = with_counts old.counted hit_counts }

  -- a look at the place found none, by which the caller may have seen more; nothing else changes
  pub record IsNoneAtHand (place : ℕ) (old new : GetterValue L) : Type 0 where
    pub looked : LooksFrom {E = AllocError} old.standing place None new.standing
    pub rest : new ≡ record old { standing = new.standing }

module _ {L : Type 0} (stated : List ℕ → CallId → List ℕ → Type 0) (key : List ℕ) where
  -- a look for the key at its place, which stays: a letter at hand is answered, which is of the key, with bytes that were stated; or there is none
  pub record LooksAtHand (at after : KeyPlace) (old new : GetterValue L) (answer : Option GetAnswer) : Type 0 where
    pub at_hand : IfSome answer (IsAtHand (place_at at) old new)
    pub none : answer ≡ None → IsNoneAtHand (place_at at) old new
    pub keyed : IfSome answer (λ found. IfOk found (λ (l : LetterValue Filled). spot_key l.value.spot ≡ key))
    pub loaded : IfSome answer (λ found. IfOk found (IsLoadedFor stated key))
    pub same : after ≡ at

module _ {L : Type 0} (space : SpaceId) where
  -- the key has a place, for which a letter was at hand
  pub record IsPresent (key : List ℕ) (old new : GetterValue L) (answer : GetAnswer) : Type 0 where
    pub seeing : IsSeeingSpace space old.desk new.desk
    pub spot : Spot
    pub resolved : IsSpotOfKey space key old.desk new.desk spot
    pub at_hand : IsAtHand (spot_place spot) (record old { desk = new.desk }) new answer

  -- none was, by which the desk and the caller may have seen more
  pub record IsAbsent (old new : GetterValue L) : Type 0 where
    pub place : ℕ
    pub seeing : IsSeeingSpace space old.desk new.desk
    pub none : IsNoneAtHand place (record old { desk = new.desk }) new
