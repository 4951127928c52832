-- what a step does, as a trace prints it: which caller, what it loaded, stored or exchanged
use Rattle.std.specs.Prelude.{ℕ, true, false, Option, Some, None}
use Rattle.sf_history.specs.declared.call.CallId.{CallId}
use Rattle.sf_steps_laws.specs.declared.operation.Stage.{Stage}
use Rattle.sf_steps_laws.specs.declared.operation.Stage.TheVariants.{Polling, Asking, Settling, Forgetting, Naming, Questioning}
use Rattle.sf_steps_laws.specs.declared.operation.AskStep.{AskStep}
use Rattle.sf_steps_laws.specs.declared.operation.AskStep.TheVariants as ask
use Rattle.sf_steps_laws.specs.declared.operation.SettleStep.{SettleStep}
use Rattle.sf_steps_laws.specs.declared.operation.SettleStep.TheVariants as settle
use Rattle.sf_steps_laws.specs.declared.operation.ForgetStep.{ForgetStep}
use Rattle.sf_steps_laws.specs.declared.operation.ForgetStep.TheVariants as forget
use Rattle.sf_steps_laws.specs.declared.operation.CurrentStep.{CurrentStep}
use Rattle.sf_steps_laws.specs.declared.operation.CurrentStep.TheVariants as current
use Rattle.sf_steps.specs.declared.trace.Act.{Act}
use Rattle.sf_steps.specs.declared.trace.Act.TheVariants.{Look, Peek, Ready, Lead, Link, Enter, Close, Clear, Follow, Deliver, Collect}
use Rattle.sf_steps_laws.specs.World.{World, next_id, key_of, same_key, is_open_with, is_full}
use Rattle.sf_steps_laws.specs.Askings.{joiner}

-- the caller whose word a step is about: a second makes its own words ready, links and enters
abbrev pub ask_stepper : ℕ → Option ℕ → AskStep → ℕ
ask_stepper a s (ask.ReadyOwn seen forgot) = joiner a s
ask_stepper a s (ask.ReadyJoin c seen) = joiner a s
ask_stepper a s (ask.Link c seen) = joiner a s
ask_stepper a s (ask.Enter c seen) = joiner a s
ask_stepper a s _ = a

module _ {V : Type 0} where
  abbrev pub ready_own_act : World V → ℕ → Option ℕ → Act
  ready_own_act w a None = Ready (next_id w a) true
  ready_own_act w a (Some b) = Ready (next_id w b) true

  abbrev pub ask_act : World V → ℕ → ℕ → Option ℕ → AskStep → Act
  ask_act w a k s (ask.Look failed) = Look k (w.keys k)
  ask_act w a k s (ask.Peek c) = Peek c.caller (w.calls c.caller)
  ask_act w a k s (ask.ReadyOwn seen forgot) = ready_own_act w a s
  ask_act w a k s (ask.ReadyLead seen forgot) = Ready (next_id w a) false
  ask_act w a k s (ask.Lead seen forgot) = Lead k (next_id w a) (same_key (w.keys k) seen)
  ask_act w a k s (ask.ReadyJoin c seen) = Ready (next_id w (joiner a s)) true
  ask_act w a k s (ask.Link c seen) = Link seen.top
  ask_act w a k s (ask.Enter c seen) = Enter c (is_open_with seen (w.calls c.caller))

  abbrev pub peek_own_act : World V → ℕ → Option CallId → Act
  peek_own_act w a None = Peek a (w.calls a)
  peek_own_act w a (Some m) = Peek m.caller (w.calls m.caller)

  abbrev pub settle_act : World V → ℕ → ℕ → CallId → Option CallId → SettleStep → Act
  settle_act w a k c own settle.Peek = Peek a (w.calls a)
  settle_act w a k c own (settle.Close seen) = Close c false (is_open_with seen (w.calls a))
  settle_act w a k c own (settle.Clear top) = Clear k c (same_key (w.keys k) (key_of c))
  settle_act w a k c own (settle.Count joiners m top) = Follow m (w.nexts m)
  settle_act w a k c own (settle.Follow joiners m) = Follow m (w.nexts m)
  settle_act w a k c own (settle.PeekMember joiners m next) = Peek m (w.calls m)
  settle_act w a k c own (settle.Deliver joiners m next) = Deliver m
  settle_act w a k c own (settle.PeekOwn joiners) = peek_own_act w a own
  settle_act w a k c own (settle.DeliverOwn joiners m) = Deliver m

  abbrev pub forget_act : World V → ℕ → ForgetStep → Act
  forget_act w k (forget.Look failed) = Look k (w.keys k)
  forget_act w k (forget.Peek c) = Peek c.caller (w.calls c.caller)
  forget_act w k (forget.Close c seen) = Close c true (is_open_with seen (w.calls c.caller))
  forget_act w k (forget.FirstClear c) = Clear k c (same_key (w.keys k) (key_of c))
  forget_act w k (forget.LastClear c) = Clear k c (same_key (w.keys k) (key_of c))

  abbrev pub current_act : World V → ℕ → CallId → CurrentStep → Act
  current_act w k c current.Peek = Peek c.caller (w.calls c.caller)
  current_act w k c current.Look = Look k (w.keys k)

  abbrev pub stepper : ℕ → Stage V → ℕ
  stepper a (Asking k s step) = ask_stepper a s step
  stepper a _ = a

  -- what the next step of the caller, which is at this stage, does; a caller without an operation does nothing
  abbrev pub act_at : World V → ℕ → Stage V → Act
  act_at w a (Polling k g c) = Collect (record { caller = a; generation = g }) (is_full (w.calls a))
  act_at w a (Asking k s step) = ask_act w a k s step
  act_at w a (Settling k g own v step) = settle_act w a k (record { caller = a; generation = g }) own step
  act_at w a (Forgetting k target step) = forget_act w k step
  act_at w a (Naming k) = Look k (w.keys k)
  act_at w a (Questioning k c step) = current_act w k c step
  act_at w a _ = Link None
