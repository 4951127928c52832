-- what the steps of a schedule show, and which trace a schedule's text has
use Rattle.std.specs.Prelude.{◌≡◌, ◌<◌, ◌⊎◌, ℕ, ◌+◌, Bool, List, [], ◌∷◌, ◌++◌, map, length, take, slice_index_or, Option}
use Rattle.std.specs.List.{flat_map}
use Rattle.sf_history.specs.declared.event.Event.{Event}
use Rattle.sf_text.specs.Words.{words}
use Rattle.sf_steps.specs.declared.trace.Act.{Act}
use Rattle.sf_steps.specs.declared.trace.Step.{Step}
use Rattle.sf_steps_laws.specs.declared.turn.Turn.{Turn}
use Rattle.sf_steps_laws.specs.declared.turn.Turn.TheVariants as turn
use Rattle.sf_steps_text.specs.declared.schedule_line.ScheduleLine.{ScheduleLine}
use Rattle.sf_steps_text.specs.declared.refusal.ScheduleRefusal.{ScheduleRefusal}
use Rattle.sf_steps_text.specs.declared.refusal.ScheduleRefusal.TheVariants.{BadSchedule, Memory}
use Rattle.sf_steps_laws.specs.World.{World, first_world}
use Rattle.sf_steps_laws.specs.Turns.{turned}
use Rattle.sf_steps_laws.specs.Events.{step_events, answer_at}
use Rattle.sf_steps.specs.Acts.{act_at, stepper}
use Rattle.sf_steps_laws.specs.Schedules.{Setting, IsSchedule}
use Rattle.sf_steps_text.specs.TraceText.{Outcome}
use Rattle.sf_steps_text.specs.ScheduleText.{Spells, turns_of}

-- a step, as a trace shows it
pub record ShownStep (V : Type 0) : Type 0 where
  pub caller : ℕ
  pub act : Act
  pub events : List (Event ℕ V)
  pub answer : Option Bool

module _ {V : Type 0} where
  abbrev pub shown : Step V → ShownStep V
  shown s = record { caller = s.caller; act = s.act; events = s.events.items; answer = s.answer }

  abbrev pub shown_step : World V → ℕ → ShownStep V
  shown_step w a = record { caller = stepper a (w.stages a); act = act_at w a (w.stages a); events = step_events w a (w.stages a); answer = answer_at w (w.stages a) }

  abbrev pub turn_steps : World V → Turn V → List (ShownStep V)
  turn_steps w (turn.Start a o) = []
  turn_steps w (turn.Step a) = shown_step w a ∷ []
  turn_steps w (turn.Leave a) = []

  -- the steps of turns, from a world on
  abbrev pub steps_of : World V → List (Turn V) → List (ShownStep V)
  steps_of w [] = []
  steps_of w (t ∷ ts) = turn_steps w t ++ steps_of (turned w t) ts

-- the setting of schedules in texts: 64 callers and places, and generation 1 as each caller's first
abbrev pub text_setting : Setting
text_setting = record { callers = 64; places = 64; first = 1 }

-- each line says this
abbrev pub AreSpelled : List (List ℕ) → List ScheduleLine → Type 0
AreSpelled [] [] = Unit {0}
AreSpelled [] (s ∷ ss) = ⊥
AreSpelled (l ∷ ls) [] = ⊥
AreSpelled (l ∷ ls) (s ∷ ss) = Spells (words l) s × AreSpelled ls ss

-- the lines say these turns, and they are a schedule
pub record IsScheduleText (ls : List (List ℕ)) (ts : List (Turn Outcome)) : Type 0 where
  pub said : List ScheduleLine
  pub spelled : AreSpelled ls said
  pub turns : ts ≡ flat_map turns_of said
  pub allowed : IsSchedule text_setting ts

-- the trace of the lines
abbrev pub IsTraceOf : List (List ℕ) → List (Step Outcome) → Type 0
IsTraceOf ls steps = (ts : List (Turn Outcome)) × IsScheduleText ls ts × (map shown steps ≡ steps_of (first_world 64 1) ts)

-- after a schedule the words say no turns, or turns that are not allowed there
abbrev pub IsBadLine : List (Turn Outcome) → List (List ℕ) → Type 0
IsBadLine ts ws = ((l : ScheduleLine) → Spells ws l → ⊥) ⊎ ((l : ScheduleLine) × Spells ws l × (IsSchedule text_setting (ts ++ turns_of l) → ⊥))

-- the lines before the line n are a schedule, which the line n does not go on with
pub record IsBadAt (ls : List (List ℕ)) (n : ℕ) : Type 0 where
  pub before : ℕ
  pub line : n ≡ before + 1
  pub within : before < length ls
  pub front : List (Turn Outcome)
  pub good : IsScheduleText (take before ls) front
  pub bad : IsBadLine front (words (slice_index_or ls before []))

abbrev pub IsRefusalOf : List (List ℕ) → ScheduleRefusal → Type 0
IsRefusalOf ls (BadSchedule n) = IsBadAt ls n
IsRefusalOf ls Memory = Unit {0}

-- the events that the steps added, in their order
abbrev pub events_in : List (Step Outcome) → List (Event ℕ Outcome)
events_in [] = []
events_in (s ∷ ss) = s.events.items ++ events_in ss
