-- the steps of an ask and of a chan: what each makes of the world
use Rattle.std.specs.Prelude.{ℕ, Bool, true, false, Option, Some, None, unwrap_or, is_some}
use Rattle.sf_history.specs.declared.call.CallId.{CallId}
use Rattle.sf_words.specs.declared.key_word.KeyState.{KeyState}
use Rattle.sf_words.specs.declared.key_word.KeyState.TheVariants.{Never, Names}
use Rattle.sf_words.specs.declared.call_word.LeaderState.{LeaderState}
use Rattle.sf_words.specs.declared.call_word.CallState.TheVariants as word
use Rattle.sf_steps_laws.specs.declared.operation.Stage.TheVariants.{Free, Leading, Holding, Asking}
use Rattle.sf_steps_laws.specs.declared.operation.AskStep.{AskStep}
use Rattle.sf_steps_laws.specs.declared.operation.AskStep.TheVariants as ask
use Rattle.sf_steps_laws.specs.World.{World, with_key, with_call, with_next, with_stage, with_used, next_id, key_of, same_key, is_open_with, open_in, is_forgot_in}

-- an asking that is to lead makes its second's word ready first, if it has a second
abbrev pub prepares : Option ℕ → KeyState → Bool → AskStep
prepares None seen forgot = ask.ReadyLead seen forgot
prepares (Some b) seen forgot = ask.ReadyOwn seen forgot

-- after a look: a key word that names no call, or a cleared one, leads on to leading
abbrev pub looked : Option ℕ → KeyState → AskStep
looked s Never = prepares s Never false
looked s (Names a g true) = prepares s (Names a g true) false
looked s (Names a g false) = ask.Peek (record { caller = a; generation = g })

-- after a peek: an open word of the call's generation leads on to joining
abbrev pub peeked : Option ℕ → CallId → Bool → Option LeaderState → AskStep
peeked s c forgot None = prepares s (key_of c) forgot
peeked s c forgot (Some seen) = ask.ReadyJoin c seen

-- who joins: the second, or the caller itself
abbrev pub joiner : ℕ → Option ℕ → ℕ
joiner a s = unwrap_or s a

-- the word with another top
abbrev pub with_top : LeaderState → ℕ → LeaderState
with_top l j = record { generation = l.generation; own = l.own; top = Some j }

module _ {V : Type 0} where
  -- the second's member and the leader's own channel of the call that the caller is to lead
  abbrev pub own_of : World V → Option ℕ → Option CallId
  own_of w None = None
  own_of w (Some b) = Some (next_id w b)

  -- the second holds the ticket of the own channel
  abbrev pub holds_own : World V → ℕ → ℕ → Option ℕ → World V
  holds_own w a k None = w
  holds_own w a k (Some b) = with_used (with_stage w b (Holding k (w.generations b) (next_id w a))) b

  -- a successful lead
  abbrev pub led : World V → ℕ → ℕ → Option ℕ → World V
  led w a k s = with_used (with_stage (with_key (holds_own w a k s) k (key_of (next_id w a))) a (Leading k (w.generations a) (own_of w s))) a

  -- a successful enter by the joiner j: where that is a second, the caller is free
  abbrev pub entered : World V → ℕ → ℕ → CallId → LeaderState → ℕ → World V
  entered w a k c seen j = with_used (with_stage (with_stage (with_call w c.caller (word.Open (with_top seen j))) a Free) j (Holding k (w.generations j) c)) j

  abbrev pub ready_own : World V → ℕ → ℕ → Option ℕ → KeyState → Bool → World V
  ready_own w a k None seen forgot = w
  ready_own w a k (Some b) seen forgot = with_stage (with_call w b (word.Listed (w.generations b))) a (Asking k (Some b) (ask.ReadyLead seen forgot))

  abbrev pub after_lead : World V → ℕ → ℕ → Option ℕ → Bool → World V
  after_lead w a k s false = with_stage w a (Asking k s (ask.Look true))
  after_lead w a k s true = led w a k s

  abbrev pub after_enter : World V → ℕ → ℕ → Option ℕ → CallId → LeaderState → Bool → World V
  after_enter w a k s c seen false = with_stage w a (Asking k s (ask.Look true))
  after_enter w a k s c seen true = entered w a k c seen (joiner a s)

  -- the steps of an ask and a chan
  abbrev pub ask_stepped : World V → ℕ → ℕ → Option ℕ → AskStep → World V
  ask_stepped w a k s (ask.Look failed) = with_stage w a (Asking k s (looked s (w.keys k)))
  ask_stepped w a k s (ask.Peek c) = with_stage w a (Asking k s (peeked s c (is_forgot_in c.generation (w.calls c.caller)) (open_in c.generation (w.calls c.caller))))
  ask_stepped w a k s (ask.ReadyOwn seen forgot) = ready_own w a k s seen forgot
  ask_stepped w a k s (ask.ReadyLead seen forgot) =
      with_stage (with_call w a (word.Open (record { generation = w.generations a; own = is_some s; top = None }))) a (Asking k s (ask.Lead seen forgot))
  ask_stepped w a k s (ask.Lead seen forgot) = after_lead w a k s (same_key (w.keys k) seen)
  ask_stepped w a k s (ask.ReadyJoin c seen) =
      with_stage (with_call w (joiner a s) (word.Listed (w.generations (joiner a s)))) a (Asking k s (ask.Link c seen))
  ask_stepped w a k s (ask.Link c seen) = with_stage (with_next w (joiner a s) seen.top) a (Asking k s (ask.Enter c seen))
  ask_stepped w a k s (ask.Enter c seen) = after_enter w a k s c seen (is_open_with seen (w.calls c.caller))
