-- which call a key word names, what forgets of one call find, and that a call that is current no more stays so
use Rattle.std.specs.Prelude.{◌≡◌, ℕ, true, false, List, [], ◌∷◌, ◌++◌, Option, Some, None, nat_eq}
use Rattle.sf_history.specs.declared.call.CallId.{CallId}
use Rattle.sf_history.specs.declared.event.Event.{Event}
use Rattle.sf_history.specs.declared.event.Event.TheVariants.{ForgetCall}
use Rattle.sf_history.specs.declared.event.Hit.{Hit}
use Rattle.sf_history.specs.History.{open_call, current_call, last_led}
use Rattle.sf_history.specs.Legal.{IsHit}
use Rattle.sf_steps_laws.specs.declared.turn.Turn.{Turn}
use Rattle.sf_steps_laws.specs.Events.{turn_events, events_of, world_after, named_by}
use Rattle.sf_steps_laws.specs.Schedules.{Setting, was_led_on, IsSchedule}
use Rattle.sf_steps_laws.specs.Laws.{is_current_after}

-- a call that is named is the one of the last Lead on the place; where none is named, the place has no current call
abbrev pub IsNamed : {V : Type 0} → List (Event ℕ V) → ℕ → Option CallId → Type 0
IsNamed h k None = current_call nat_eq h k ≡ None
IsNamed h k (Some c) = last_led nat_eq h k ≡ Some c

-- what a look of a key word finds named is so
abbrev pub NamesAreRight : Type 0 → Type 0
NamesAreRight V = (z : Setting) (s : List (Turn V)) → IsSchedule z s → (k : ℕ) → IsNamed (events_of z.callers z.first s) k (named_by ((world_after z.callers z.first s).keys k))

-- a forget of one call says what it found
abbrev pub HitsAreRight : Type 0 → Type 0
HitsAreRight V = (z : Setting) (s : List (Turn V)) (t : Turn V) → IsSchedule z (s ++ t ∷ []) → (a k : ℕ) (c : CallId) (hit : Hit) → turn_events (world_after z.callers z.first s) t ≡ ForgetCall a k c hit ∷ []
    → IsHit (open_call nat_eq (events_of z.callers z.first s) k) (current_call nat_eq (events_of z.callers z.first s) k) c hit

-- a call that was led on the place, and is not current there, is never current there again
abbrev pub PastStaysPast : Type 0 → Type 0
PastStaysPast V = (z : Setting) (s ts : List (Turn V)) → IsSchedule z (s ++ ts) → (k : ℕ) (c : CallId) → was_led_on (events_of z.callers z.first s) k c ≡ true → is_current_after z.callers z.first s k c ≡ false
    → is_current_after z.callers z.first (s ++ ts) k c ≡ false
