-- schedules: lists of turns, each allowed where it stands
use Rattle.std.specs.Prelude.{◌≡◌, ◌≢◌, ◌≤◌, ℕ, ◌==◌, Bool, true, false, ◌&&◌, List, [], ◌∷◌, ◌++◌, Option}
use Rattle.std.specs.List.{list_any}
use Rattle.sf_history.specs.declared.call.CallId.{CallId}
use Rattle.sf_history.specs.declared.event.Event.{Event}
use Rattle.sf_history.specs.declared.event.Event.TheVariants.{Lead, Enter, Forget, ForgetCall, Settle, Handed}
use Rattle.sf_history.specs.Calls.{same_call}
use Rattle.sf_steps_laws.specs.declared.operation.Op.{Op}
use Rattle.sf_steps_laws.specs.declared.operation.Op.TheVariants as op
use Rattle.sf_steps_laws.specs.declared.operation.Stage.{Stage}
use Rattle.sf_steps_laws.specs.declared.operation.Stage.TheVariants.{Free, Leading, Holding, Polling, Seconding, Asking, Settling, Forgetting, Naming, Questioning}
use Rattle.sf_steps_laws.specs.declared.operation.AskStep.TheVariants as ask
use Rattle.sf_steps_laws.specs.declared.operation.ForgetStep.TheVariants as forget
use Rattle.sf_steps_laws.specs.declared.turn.Turn.{Turn}
use Rattle.sf_steps_laws.specs.declared.turn.Turn.TheVariants as turn
use Rattle.sf_steps_laws.specs.World.{World, first_world}
use Rattle.sf_steps_laws.specs.Turns.{turned}
use Rattle.sf_steps_laws.specs.Events.{turn_events}
use Rattle.sf_words.specs.declared.limits.TheConstants.{LARGEST_GENERATION}

-- where schedules are played: callers and places are numbered from 1, and each caller's first generation is this
pub record Setting : Type 0 where
  pub callers : ℕ
  pub places : ℕ
  pub first : ℕ

abbrev pub IsCaller : Setting → ℕ → Type 0
IsCaller z a = (1 ≤ a) × (a ≤ z.callers)

abbrev pub IsPlace : Setting → ℕ → Type 0
IsPlace z k = (1 ≤ k) × (k ≤ z.places)

module _ {V : Type 0} where
  -- the event is a Lead of the call on the place
  abbrev pub leads_on : ℕ → CallId → Event ℕ V → Bool
  leads_on k c (Lead by key call own) = (key == k) && same_call call c
  leads_on k c (Enter by key call member) = false
  leads_on k c (Forget by key closed) = false
  leads_on k c (ForgetCall by key call hit) = false
  leads_on k c (Settle by call result joiners) = false
  leads_on k c (Handed by call) = false

  -- the call was led on the place
  abbrev pub was_led_on : List (Event ℕ V) → ℕ → CallId → Bool
  was_led_on h k c = list_any (leads_on k c) h

  -- the caller may ask: it is free, and has a generation left
  abbrev pub MayAsk : World V → ℕ → Type 0
  MayAsk w a = (w.stages a ≡ Free) × (w.generations a ≤ LARGEST_GENERATION)

  -- what the start of an operation asks of the world
  abbrev pub MayStart : Setting → World V → ℕ → Op V → Type 0
  MayStart z w a (op.Ask k) = IsPlace z k × MayAsk w a
  MayStart z w a (op.Chan b k) = IsPlace z k × IsCaller z b × (b ≢ a) × MayAsk w a × MayAsk w b
  MayStart z w a (op.Settle v) = (k g : ℕ) × (own : Option CallId) × (w.stages a ≡ Leading k g own)
  MayStart z w a (op.Forget k) = IsPlace z k × (w.stages a ≡ Free)
  MayStart z w a (op.ForgetCall k c) = IsPlace z k × (w.stages a ≡ Free)
  MayStart z w a (op.Named k) = IsPlace z k × (w.stages a ≡ Free)
  MayStart z w a op.Poll = (k g : ℕ) × (c : CallId) × (w.stages a ≡ Holding k g c)
  MayStart z w a (op.Current k c) = IsPlace z k × (w.stages a ≡ Free)

  -- what it asks of the events that have been added: a question is of a call that was led on the place
  abbrev pub AsksOfLed : List (Event ℕ V) → Op V → Type 0
  AsksOfLed h (op.Current k c) = was_led_on h k c ≡ true
  AsksOfLed h _ = Unit {0}

  -- a caller at this stage has an operation
  abbrev pub HasOperation : Stage V → Type 0
  HasOperation Free = ⊥
  HasOperation (Leading k g own) = ⊥
  HasOperation (Holding k g c) = ⊥
  HasOperation (Polling k g c) = Unit {0}
  HasOperation (Seconding first) = ⊥
  HasOperation (Asking k s step) = Unit {0}
  HasOperation (Settling k g own v step) = Unit {0}
  HasOperation (Forgetting k target step) = Unit {0}
  HasOperation (Naming k) = Unit {0}
  HasOperation (Questioning k c step) = Unit {0}

  -- a caller at this stage has just made a failed exchange, and looks again
  abbrev pub MayLeave : Stage V → Type 0
  MayLeave (Asking k s (ask.Look true)) = Unit {0}
  MayLeave (Forgetting k target (forget.Look true)) = Unit {0}
  MayLeave _ = ⊥

  abbrev pub IsTurn : Setting → List (Event ℕ V) → World V → Turn V → Type 0
  IsTurn z h w (turn.Start a o) = IsCaller z a × MayStart z w a o × AsksOfLed h o
  IsTurn z h w (turn.Step a) = IsCaller z a × HasOperation (w.stages a)
  IsTurn z h w (turn.Leave a) = IsCaller z a × MayLeave (w.stages a)

  -- the turns are a schedule from a world on, in which these events have been added
  abbrev pub IsScheduleFrom : Setting → List (Event ℕ V) → World V → List (Turn V) → Type 0
  IsScheduleFrom z h w [] = Unit {0}
  IsScheduleFrom z h w (t ∷ ts) = IsTurn z h w t × IsScheduleFrom z (h ++ turn_events w t) (turned w t) ts

  -- schedule: each turn is allowed where it stands
  abbrev pub IsSchedule : Setting → List (Turn V) → Type 0
  IsSchedule z s = IsScheduleFrom z [] (first_world z.callers z.first) s
