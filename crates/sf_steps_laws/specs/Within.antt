-- words and stages name callers of the setting, and generations that words can hold
use Rattle.std.specs.Prelude.{◌≤◌, ℕ, List, Option, Some, None}
use Rattle.sf_history.specs.declared.call.CallId.{CallId}
use Rattle.sf_words.specs.CallWord.{IsGeneration}
use Rattle.sf_words.specs.declared.key_word.KeyState.{KeyState}
use Rattle.sf_words.specs.declared.key_word.KeyState.TheVariants.{Never, Names}
use Rattle.sf_words.specs.declared.call_word.LeaderState.{LeaderState}
use Rattle.sf_words.specs.declared.call_word.CallState.{CallState}
use Rattle.sf_words.specs.declared.call_word.CallState.TheVariants as word
use Rattle.sf_words.specs.KeyWord.{IsKeyState}
use Rattle.sf_words.specs.CallWord.{IsCallState}
use Rattle.sf_words.specs.NextWord.{IsCallerOrNone}
use Rattle.sf_steps_laws.specs.declared.operation.Stage.{Stage}
use Rattle.sf_steps_laws.specs.declared.operation.Stage.TheVariants.{Free, Leading, Holding, Polling, Seconding, Asking, Settling, Forgetting, Naming, Questioning}
use Rattle.sf_steps_laws.specs.declared.operation.AskStep.{AskStep}
use Rattle.sf_steps_laws.specs.declared.operation.AskStep.TheVariants as ask
use Rattle.sf_steps_laws.specs.declared.operation.SettleStep.{SettleStep}
use Rattle.sf_steps_laws.specs.declared.operation.SettleStep.TheVariants as settle
use Rattle.sf_steps_laws.specs.declared.operation.ForgetStep.{ForgetStep}
use Rattle.sf_steps_laws.specs.declared.operation.ForgetStep.TheVariants as forget
use Rattle.sf_steps_laws.specs.declared.turn.Turn.{Turn}
use Rattle.sf_steps_laws.specs.World.{World}
use Rattle.sf_steps_laws.specs.Events.{world_after}
use Rattle.sf_steps_laws.specs.Schedules.{Setting, IsCaller, IsSchedule}
use Rattle.sf_words.specs.declared.limits.TheConstants.{LARGEST_CALLER, LARGEST_GENERATION}

abbrev pub TopIn : Setting → Option ℕ → Type 0
TopIn z None = Unit {0}
TopIn z (Some n) = IsCaller z n

abbrev pub CallIn : Setting → CallId → Type 0
CallIn z c = IsCaller z c.caller × IsGeneration c.generation

abbrev pub OwnIn : Setting → Option CallId → Type 0
OwnIn z None = Unit {0}
OwnIn z (Some m) = CallIn z m

abbrev pub KeyIn : Setting → KeyState → Type 0
KeyIn z Never = Unit {0}
KeyIn z (Names a g cleared) = IsCaller z a × IsGeneration g

abbrev pub LeaderIn : Setting → LeaderState → Type 0
LeaderIn z s = IsGeneration s.generation × TopIn z s.top

abbrev pub WordIn : Setting → CallState → Type 0
WordIn z word.Free = Unit {0}
WordIn z (word.Open s) = LeaderIn z s
WordIn z (word.Forgot s) = LeaderIn z s
WordIn z (word.Done s) = LeaderIn z s
WordIn z (word.Listed g) = IsGeneration g
WordIn z (word.Full g) = IsGeneration g

abbrev pub AskIn : Setting → AskStep → Type 0
AskIn z (ask.Look failed) = Unit {0}
AskIn z (ask.Peek c) = CallIn z c
AskIn z (ask.ReadyOwn seen f) = KeyIn z seen
AskIn z (ask.ReadyLead seen f) = KeyIn z seen
AskIn z (ask.Lead seen f) = KeyIn z seen
AskIn z (ask.ReadyJoin c seen) = CallIn z c × LeaderIn z seen
AskIn z (ask.Link c seen) = CallIn z c × LeaderIn z seen
AskIn z (ask.Enter c seen) = CallIn z c × LeaderIn z seen

abbrev pub SettleIn : Setting → SettleStep → Type 0
SettleIn z settle.Peek = Unit {0}
SettleIn z (settle.Close seen) = LeaderIn z seen
SettleIn z (settle.Clear top) = TopIn z top
SettleIn z (settle.Count joiners m top) = IsCaller z m × IsCaller z top × (joiners ≤ z.callers)
SettleIn z (settle.Follow joiners m) = IsCaller z m
SettleIn z (settle.PeekMember joiners m next) = IsCaller z m × TopIn z next
SettleIn z (settle.Deliver joiners m next) = IsCaller z m.caller × TopIn z next
SettleIn z (settle.PeekOwn joiners) = Unit {0}
SettleIn z (settle.DeliverOwn joiners m) = IsCaller z m.caller

abbrev pub ForgetIn : Setting → ForgetStep → Type 0
ForgetIn z (forget.Look failed) = Unit {0}
ForgetIn z (forget.Peek c) = CallIn z c
ForgetIn z (forget.Close c seen) = CallIn z c × LeaderIn z seen
ForgetIn z (forget.FirstClear c) = CallIn z c
ForgetIn z (forget.LastClear c) = CallIn z c

-- who asks is a caller with a generation left
abbrev pub AskerIn : Setting → ℕ → ℕ → Type 0
AskerIn z x n = IsCaller z x × (n ≤ LARGEST_GENERATION)

module _ {V : Type 0} where
  -- the stage of the caller x, whose next generation is n
  abbrev pub StageIn : Setting → ℕ → ℕ → Stage V → Type 0
  StageIn z x n Free = Unit {0}
  StageIn z x n (Leading k g own) = IsCaller z x × IsGeneration g × OwnIn z own
  StageIn z x n (Holding k g c) = Unit {0}
  StageIn z x n (Polling k g c) = Unit {0}
  StageIn z x n (Seconding first) = AskerIn z x n
  StageIn z x n (Asking k s step) = AskerIn z x n × AskIn z step
  StageIn z x n (Settling k g own v step) = IsCaller z x × IsGeneration g × OwnIn z own × SettleIn z step
  StageIn z x n (Forgetting k target step) = ForgetIn z step
  StageIn z x n (Naming k) = Unit {0}
  StageIn z x n (Questioning k c step) = Unit {0}

  pub record AreWithin (z : Setting) (w : World V) : Type 0 where
    pub keys : (k : ℕ) → KeyIn z (w.keys k)
    pub calls : (a : ℕ) → WordIn z (w.calls a)
    pub nexts : (a : ℕ) → TopIn z (w.nexts a)
    pub stages : (a : ℕ) → StageIn z a (w.generations a) (w.stages a)

  pub record AreLawful (w : World V) : Type 0 where
    pub keys : (k : ℕ) → IsKeyState (w.keys k)
    pub calls : (a : ℕ) → IsCallState (w.calls a)
    pub nexts : (a : ℕ) → IsCallerOrNone (w.nexts a)

-- words and stages are within the setting
abbrev pub WorldsAreWithin : Type 0 → Type 0
WorldsAreWithin V = (z : Setting) (s : List (Turn V)) → 1 ≤ z.first → IsSchedule z s → AreWithin z (world_after z.callers z.first s)

-- words are lawful
abbrev pub WordsAreLawful : Type 0 → Type 0
WordsAreLawful V = (z : Setting) (s : List (Turn V)) → 1 ≤ z.first → z.callers ≤ LARGEST_CALLER → IsSchedule z s → AreLawful (world_after z.callers z.first s)
