-- what a getter logs of the events that its calls add to the history
use Rattle.std.specs.Prelude.{◌≡◌, ℕ, nat_lt, cond, List, [], ◌∷◌, ◌++◌, length}
use Rattle.sf_history.specs.declared.call.CallId.{CallId}
use Rattle.sf_history.specs.declared.event.Event.{Event}
use Rattle.sf_history.specs.declared.event.Event.TheVariants.{Lead, Enter, Forget, ForgetCall, Settle, Handed}
use Rattle.sf_history.specs.History.{own_events}
use Rattle.sf_group_rows.specs.declared.outcomes.Finished.{Finished}
use Rattle.sf_group_rows.specs.declared.outcomes.Finished.TheVariants.{Done, Held}
use Rattle.sf_group_rows.specs.Tokens.{CallerValue, LetterValue, SettledValue}

-- the events, oldest first, and how many there is room for in all
pub record LogValue : Type 0 where
  pub events : List (Event ℕ (Unit {0}))
  pub room : ℕ

abbrev pub empty_log : ℕ → LogValue
empty_log room = record { events = []; room = room }

-- one event more, where there is room for it
abbrev pub logged_one : LogValue → Event ℕ (Unit {0}) → LogValue
logged_one log e = cond (nat_lt (length log.events) log.room) (record { events = log.events ++ e ∷ []; room = log.room }) log

module _ {V : Type 0} where
  -- logs keep no results
  abbrev pub without_result : Event ℕ V → Event ℕ (Unit {0})
  without_result (Lead by key call own) = Lead by key call own
  without_result (Enter by key call member) = Enter by key call member
  without_result (Forget by key closed) = Forget by key closed
  without_result (ForgetCall by key call hit) = ForgetCall by key call hit
  without_result (Settle by call result joiners) = Settle by call tt joiners
  without_result (Handed by call) = Handed by call

  -- these events in turn, as far as there is room
  abbrev pub logged_by : LogValue → List (Event ℕ V) → LogValue
  logged_by log [] = log
  logged_by log (e ∷ added) = logged_by (logged_one log (without_result e)) added

  -- what a caller added is what was logged
  pub record HasLogged (a : ℕ) (old new : List (Event ℕ V)) (log after : LogValue) : Type 0 where
    pub added : List (Event ℕ V)
    pub own : own_events a new ≡ own_events a old ++ added
    pub logged : after ≡ logged_by log added

  -- how the call ended: its Settle, and its Handed unless letters are owed
  abbrev pub finish_events : CallId → Finished (CallerValue V) (LetterValue V) (SettledValue V) → List (Event ℕ (Unit {0}))
  finish_events c (Done d l) = Settle c.caller c tt l.joiners ∷ Handed c.caller c ∷ []
  finish_events c (Held s) = Settle c.caller c tt s.joiners ∷ []
