-- The headline, by names, as laws over what the calls leave.
use Rattle.std.specs.Prelude.{◌≡◌, ◌≢◌, ◌↔◌, ℕ, Bool, true, false, List, ◌∷◌, ◌++◌, nat_eq, None, Some, Option}
use Rattle.sf_history.specs.declared.call.CallId.{CallId}
use Rattle.sf_history.specs.declared.event.Event.TheVariants as event
use Rattle.sf_history.specs.History.{IsNew, is_settled, joined, open_call}
use Rattle.sf_keyed_tells.specs.Tells.{KeyedEvent, call_of}
use Rattle.sf_keyed_words.specs.Rule.{IsPrefix}
use Rattle.sf_keyed.specs.Known.{FrontState, FlightState}
use Rattle.sf_keyed.specs.Calls.{Led, Joined, SettledBy, IsTaken}

-- an asking that leads does so where the name has no open call, and its call, which is new, is the name's open call then
abbrev pub LeadsTheNewCall : Type 0
LeadsTheNewCall = (before after : FrontState) (name call : ℕ) (led : Led before after name call)
    → (open_call nat_eq (before.seen ++ led.others) name ≡ None) × IsNew (before.seen ++ led.others) (call_of call) × (open_call nat_eq after.seen name ≡ Some (call_of call))

-- one that joins enters the name's open call
abbrev pub EntersTheOpenCall : Type 0
EntersTheOpenCall = (before after : FrontState) (name call : ℕ) (enters : Joined before after name call) → open_call nat_eq (before.seen ++ enters.adds.others) name ≡ Some (call_of call)

-- a Forget of the name that was seen had closed the call
pub record WasClosed (seen : List KeyedEvent) (name : ℕ) (c : CallId) : Type 0 where
  pub first : List KeyedEvent
  pub later : List KeyedEvent
  pub by : ℕ
  pub stands : seen ≡ first ++ event.Forget by name (Some c) ∷ later

-- an asking never leads or enters a call that a Forget seen before it had closed
abbrev pub NeverAForgottenCall : Type 0
NeverAForgottenCall = (before after : FrontState) (name call : ℕ) (c : CallId) → WasClosed before.seen name c
    → (Led before after name call → call_of call ≢ c) × (Joined before after name call → call_of call ≢ c)

-- a call is settled once, and its joiners are counted right
abbrev pub SettlesOnce : Type 0
SettlesOnce = (before after : FrontState) (call : ℕ) (told : Option ℕ) (shared ended : Bool) (s : SettledBy before after call told shared ended)
    → (is_settled (before.seen ++ s.adds.others) (call_of call) ≡ false) × (s.joiners ≡ joined (before.seen ++ s.adds.others) (call_of call))

-- it is shared exactly when somebody joined
abbrev pub SharesWhatWasJoined : Type 0
SharesWhatWasJoined = (before after : FrontState) (call : ℕ) (told : Option ℕ) (shared ended : Bool) (s : SettledBy before after call told shared ended)
    → (shared ≡ true) ↔ (joined (before.seen ++ s.adds.others) (call_of call) ≢ 0)

-- an answer is the value that the call's one run was settled with, where the seen of both are beginnings of one history
abbrev pub AnswersTheOneRun : Type 0
AnswersTheOneRun = (before after asked told : FrontState) (ticket : FlightState) (value answer : ℕ) (shared ended : Bool) (h : List KeyedEvent)
    → SettledBy before after ticket.call (Some value) shared ended → IsTaken asked told ticket answer → IsPrefix after.seen h → IsPrefix told.seen h → answer ≡ value
