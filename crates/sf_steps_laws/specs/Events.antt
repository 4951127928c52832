-- the events that the steps of a schedule add, and the world and the answers that go with them
use Rattle.std.specs.Prelude.{ℕ, Bool, true, false, List, [], ◌∷◌, ◌++◌, if◌then◌else◌, Option, Some, None}
use Rattle.sf_history.specs.declared.call.CallId.{CallId}
use Rattle.sf_history.specs.declared.event.Event.{Event}
use Rattle.sf_history.specs.declared.event.Event.TheVariants.{Lead, Enter, Forget, ForgetCall, Settle, Handed}
use Rattle.sf_history.specs.declared.event.Hit.TheVariants.{Closed, Cleared, Missed}
use Rattle.sf_words.specs.declared.key_word.KeyState.{KeyState}
use Rattle.sf_words.specs.declared.key_word.KeyState.TheVariants.{Never, Names}
use Rattle.sf_words.specs.declared.call_word.LeaderState.{LeaderState}
use Rattle.sf_words.specs.declared.call_word.CallState.{CallState}
use Rattle.sf_words.specs.declared.call_word.CallState.TheVariants as word
use Rattle.sf_steps_laws.specs.declared.operation.Stage.{Stage}
use Rattle.sf_steps_laws.specs.declared.operation.Stage.TheVariants as stage
use Rattle.sf_steps_laws.specs.declared.operation.AskStep.{AskStep}
use Rattle.sf_steps_laws.specs.declared.operation.AskStep.TheVariants as ask
use Rattle.sf_steps_laws.specs.declared.operation.SettleStep.{SettleStep}
use Rattle.sf_steps_laws.specs.declared.operation.SettleStep.TheVariants as settle
use Rattle.sf_steps_laws.specs.declared.operation.ForgetStep.{ForgetStep}
use Rattle.sf_steps_laws.specs.declared.operation.ForgetStep.TheVariants as forget
use Rattle.sf_steps_laws.specs.declared.operation.CurrentStep.{CurrentStep}
use Rattle.sf_steps_laws.specs.declared.operation.CurrentStep.TheVariants as current
use Rattle.sf_steps_laws.specs.declared.turn.Turn.{Turn}
use Rattle.sf_steps_laws.specs.declared.turn.Turn.TheVariants as turn
use Rattle.sf_steps_laws.specs.World.{World, first_world, next_id, key_of, same_key, is_open_with, is_forgot_in, count}
use Rattle.sf_steps_laws.specs.Askings.{joiner, own_of}
use Rattle.sf_steps_laws.specs.Turns.{misses, turned, run}

-- the call that a look of the key word finds named
abbrev pub named_by : KeyState → Option CallId
named_by Never = None
named_by (Names b g true) = None
named_by (Names b g false) = Some (record { caller = b; generation = g })

module _ {V : Type 0} where
  -- the Handed of a call that owes no letter
  abbrev pub handed : ℕ → CallId → Option CallId → Option ℕ → List (Event ℕ V)
  handed a c None None = Handed a c ∷ []
  handed a c None (Some m) = []
  handed a c (Some o) None = []
  handed a c (Some o) (Some m) = []

  -- the Settle of a call that so many joined, with the top of its list, and its Handed where it owes no letter
  abbrev pub settled : ℕ → CallId → Option CallId → V → ℕ → Option ℕ → List (Event ℕ V)
  settled a c own v joiners top = Settle a c v joiners ∷ handed a c own top

  abbrev pub lead_events : World V → ℕ → ℕ → Option ℕ → Bool → List (Event ℕ V)
  lead_events w a k s false = []
  lead_events w a k s true = Lead a k (next_id w a) (own_of w s) ∷ []

  abbrev pub enter_events : World V → ℕ → CallId → ℕ → Bool → List (Event ℕ V)
  enter_events w k c j false = []
  enter_events w k c j true = Enter j k c (next_id w j) ∷ []

  abbrev pub ask_events : World V → ℕ → ℕ → Option ℕ → AskStep → List (Event ℕ V)
  ask_events w a k s (ask.Lead seen forgot) = lead_events w a k s (same_key (w.keys k) seen)
  ask_events w a k s (ask.Enter c seen) = enter_events w k c (joiner a s) (is_open_with seen (w.calls c.caller))
  ask_events w a k s _ = []

  abbrev pub peek_events : World V → ℕ → CallId → Option CallId → V → CallState → List (Event ℕ V)
  peek_events w a c own v (word.Forgot s) = settled a c own v (count s.top w.callers w.nexts) s.top
  peek_events w a c own v _ = []

  abbrev pub close_events : World V → ℕ → CallId → Option CallId → V → LeaderState → Bool → List (Event ℕ V)
  close_events w a c own v seen false = []
  close_events w a c own v seen true = settled a c own v (count seen.top w.callers w.nexts) seen.top

  abbrev pub settle_events : World V → ℕ → CallId → Option CallId → V → SettleStep → List (Event ℕ V)
  settle_events w a c own v settle.Peek = peek_events w a c own v (w.calls a)
  settle_events w a c own v (settle.Close seen) = close_events w a c own v seen (is_open_with seen (w.calls a))
  settle_events w a c own v (settle.Deliver joiners m next) = handed a c own next
  settle_events w a c own v (settle.DeliverOwn joiners m) = Handed a c ∷ []
  settle_events w a c own v _ = []

  -- what a Forget of the place's key, or of one call, adds where it finds its call open, and where it finds it current and not open
  abbrev pub closes : ℕ → ℕ → Option CallId → CallId → Event ℕ V
  closes a k None c = Forget a k (Some c)
  closes a k (Some d) c = ForgetCall a k c Closed

  abbrev pub clears : ℕ → ℕ → Option CallId → CallId → Event ℕ V
  clears a k None c = Forget a k None
  clears a k (Some d) c = ForgetCall a k c Cleared

  -- a Forget that finds no open call is idle
  abbrev pub key_look_events : ℕ → ℕ → KeyState → List (Event ℕ V)
  key_look_events a k Never = Forget a k None ∷ []
  key_look_events a k (Names b g true) = Forget a k None ∷ []
  key_look_events a k (Names b g false) = []

  -- one of a call that it does not find as the current one misses it
  abbrev pub missed_unless : ℕ → ℕ → CallId → Bool → List (Event ℕ V)
  missed_unless a k c false = ForgetCall a k c Missed ∷ []
  missed_unless a k c true = []

  abbrev pub look_events : ℕ → ℕ → Option CallId → KeyState → List (Event ℕ V)
  look_events a k None v = key_look_events a k v
  look_events a k (Some c) v = missed_unless a k c (same_key v (key_of c))

  abbrev pub forget_one : Event ℕ V → Bool → List (Event ℕ V)
  forget_one e false = []
  forget_one e true = e ∷ []

  abbrev pub forget_events : World V → ℕ → ℕ → Option CallId → ForgetStep → List (Event ℕ V)
  forget_events w a k target (forget.Look failed) = look_events a k target (w.keys k)
  forget_events w a k target (forget.Peek c) = forget_one (ForgetCall a k c Missed) (misses target (is_forgot_in c.generation (w.calls c.caller)))
  forget_events w a k target (forget.Close c seen) = forget_one (closes a k target c) (is_open_with seen (w.calls c.caller))
  forget_events w a k target (forget.FirstClear c) = forget_one (clears a k target c) (same_key (w.keys k) (key_of c))
  forget_events w a k target (forget.LastClear c) = []

  -- the events that the next step of the caller, which is at this stage, adds
  abbrev pub step_events : World V → ℕ → Stage V → List (Event ℕ V)
  step_events w a (stage.Asking k s step) = ask_events w a k s step
  step_events w a (stage.Settling k g own v step) = settle_events w a (record { caller = a; generation = g }) own v step
  step_events w a (stage.Forgetting k target step) = forget_events w a k target step
  step_events w a _ = []

  abbrev pub turn_events : World V → Turn V → List (Event ℕ V)
  turn_events w (turn.Start a o) = []
  turn_events w (turn.Step a) = step_events w a (w.stages a)
  turn_events w (turn.Leave a) = []

  -- the events that the turns add, from a world on
  abbrev pub adds : World V → List (Turn V) → List (Event ℕ V)
  adds w [] = []
  adds w (t ∷ ts) = turn_events w t ++ adds (turned w t) ts

  -- the events of a schedule, and the world after it, with this many callers and this first generation
  abbrev pub events_of : ℕ → ℕ → List (Turn V) → List (Event ℕ V)
  events_of callers first s = adds (first_world callers first) s

  abbrev pub world_after : ℕ → ℕ → List (Turn V) → World V
  world_after callers first s = run (first_world callers first) s

  -- what the next step of the caller, which is at this stage, answers, if it ends a question
  abbrev pub current_answer : World V → ℕ → CallId → CurrentStep → Option Bool
  current_answer w k c current.Peek = if is_forgot_in c.generation (w.calls c.caller) then Some false else None
  current_answer w k c current.Look = Some (same_key (w.keys k) (key_of c))

  abbrev pub answer_at : World V → Stage V → Option Bool
  answer_at w (stage.Questioning k c step) = current_answer w k c step
  answer_at w _ = None
