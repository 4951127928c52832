-- what a leader counts is how many joined its call
use Rattle.std.specs.Prelude.{◌≡◌, ◌≤◌, ◌+◌, ℕ, List, ◌∷◌, ◌++◌, length, Option, Some, None}
use Rattle.sf_history.specs.declared.call.CallId.{CallId}
use Rattle.sf_history.specs.declared.event.Event.{Event}
use Rattle.sf_history.specs.declared.event.Event.TheVariants.{Settle}
use Rattle.sf_history.specs.History.{answer_of}
use Rattle.sf_steps_laws.specs.declared.operation.Stage.TheVariants.{Settling}
use Rattle.sf_steps_laws.specs.declared.operation.SettleStep.{SettleStep}
use Rattle.sf_steps_laws.specs.declared.operation.SettleStep.TheVariants as settle
use Rattle.sf_steps_laws.specs.declared.turn.Turn.{Turn}
use Rattle.sf_steps_laws.specs.Events.{events_of, world_after}
use Rattle.sf_steps_laws.specs.Schedules.{Setting, IsSchedule}
use Rattle.sf_steps_laws.specs.Waiting.{IsListed}

-- how many joined the call, as its leader knows it once it has counted
abbrev pub number_of : SettleStep → Option ℕ
number_of settle.Peek = None
number_of (settle.Close seen) = None
number_of (settle.Clear top) = None
number_of (settle.Count joiners m top) = None
number_of (settle.Follow joiners m) = Some joiners
number_of (settle.PeekMember joiners m next) = Some joiners
number_of (settle.Deliver joiners m next) = Some joiners
number_of (settle.PeekOwn joiners) = Some joiners
number_of (settle.DeliverOwn joiners m) = Some joiners

-- a leader that has counted knows its call's answer
abbrev pub CountsAreRight : Type 0 → Type 0
CountsAreRight V = (z : Setting) (s : List (Turn V)) → IsSchedule z s → (a k g : ℕ) (own : Option CallId) (v : V) (step : SettleStep) (n : ℕ)
    → (world_after z.callers z.first s).stages a ≡ Settling k g own v step → number_of step ≡ Some n
    → answer_of (events_of z.callers z.first s) (record { caller = a; generation = g }) ≡ Some (v, n)

-- and the Settle of its call has that very number
abbrev pub SettlesAreCounted : Type 0 → Type 0
SettlesAreCounted V = (z : Setting) (s : List (Turn V)) → IsSchedule z s → (a k g : ℕ) (own : Option CallId) (v : V) (step : SettleStep) (n : ℕ)
    → (world_after z.callers z.first s).stages a ≡ Settling k g own v step → number_of step ≡ Some n
    → (p q : List (Event ℕ V)) (b m : ℕ) (x : V) → events_of z.callers z.first s ≡ p ++ Settle b (record { caller = a; generation = g }) x m ∷ q → m ≡ n

-- what a leader is still to count is one list of members that wait, which are no more than the callers together with those that it counted
abbrev pub CountsHaveLists : Type 0 → Type 0
CountsHaveLists V = (z : Setting) (s : List (Turn V)) → IsSchedule z s → (a k g n m top : ℕ) (own : Option CallId) (v : V)
    → (world_after z.callers z.first s).stages a ≡ Settling k g own v (settle.Count n m top)
    → (l : List CallId) × IsListed (world_after z.callers z.first s) k (record { caller = a; generation = g }) (Some m) l × (n + length l ≤ z.callers)
