-- how a question ends: whether a letter's call is its place's current one
use Rattle.std.specs.Prelude.{◌≡◌, ◌≢◌, ℕ, Bool, List, Some, nat_eq, IsTrue, IsFalse}
use Rattle.sf_history.specs.declared.call.CallId.{CallId}
use Rattle.sf_history.specs.declared.event.Event.{Event}
use Rattle.sf_history.specs.History.{current_call}
use Rattle.sf_group_rows.specs.Tokens.{CallerValue, LetterValue}
use Rattle.sf_group_rows.specs.Seen.{StartsWith}
use Rattle.sf_group_rows.specs.Notes.{HasLearnt, HasLent}

module _ {V : Type 0} where
  -- the call was the place's current one at a moment after all that had been seen, and been shown
  pub record WasCurrent (k : ℕ) (c : CallId) (seen shown new : List (Event ℕ V)) : Type 0 where
    pub moment : List (Event ℕ V)
    pub begins : StartsWith moment seen
    pub shows : StartsWith moment shown
    pub within : StartsWith new moment
    pub current : current_call nat_eq moment k ≡ Some c

  -- The caller has learnt what the letter's note shows, and made nothing. Where the answer is yes, the call was current at some time
  -- during the question; where it is no, it is not current at its end.
  pub record HasQuestioned (c : CallerValue V) (l : LetterValue V) (yes : Bool) (d : CallerValue V) (m : LetterValue V) : Type 0 where
    pub learnt : HasLearnt c l.seen d
    pub lent : HasLent l m
    pub right : IsTrue yes → WasCurrent l.place l.call c.seen l.seen d.seen
    pub outdated : IsFalse yes → current_call nat_eq d.seen l.place ≢ Some l.call

  -- How the question ends whether a call, whichever it is, is the place's current one: where the answer is yes, it was current at
  -- some time later than all that had been seen; where it is no, it is not current at the end.
  pub record IsStillSaid (k : ℕ) (c : CallId) (yes : Bool) (seen new : List (Event ℕ V)) : Type 0 where
    pub right : IsTrue yes → WasCurrent k c seen seen new
    pub outdated : IsFalse yes → current_call nat_eq new k ≢ Some c
