-- how often a caller tried to exchange a word
use Rattle.std.specs.Prelude.{◌≡◌, ◌≤◌, ℕ, ◌+◌, ◌==◌, List, [], ◌∷◌, ◌++◌, if◌then◌else◌}
use Rattle.sf_steps_laws.specs.declared.operation.Stage.{Stage}
use Rattle.sf_steps_laws.specs.declared.operation.Stage.TheVariants as stage
use Rattle.sf_steps_laws.specs.declared.operation.AskStep.{AskStep}
use Rattle.sf_steps_laws.specs.declared.operation.AskStep.TheVariants as ask
use Rattle.sf_steps_laws.specs.declared.operation.ForgetStep.{ForgetStep}
use Rattle.sf_steps_laws.specs.declared.operation.ForgetStep.TheVariants as forget
use Rattle.sf_steps_laws.specs.declared.turn.Turn.{Turn}
use Rattle.sf_steps_laws.specs.declared.turn.Turn.TheVariants as turn
use Rattle.sf_steps_laws.specs.World.{World, first_world}
use Rattle.sf_steps_laws.specs.Turns.{turned}
use Rattle.sf_group_rows.specs.declared.sizes.Sizes.{Sizes}
use Rattle.sf_group_steps.specs.declared.view.View.{View}
use Rattle.sf_group_steps.specs.View.{world_of}
use Rattle.sf_group_steps.specs.declared.asking.AskAttempt.{AskAttempt}
use Rattle.sf_group_steps.specs.declared.asking.AskAttempt.TheVariants.{Led, Joined, Lost}
use Rattle.sf_group_steps.specs.declared.forgetting.ForgetAttempt.{ForgetAttempt}
use Rattle.sf_group_steps.specs.declared.forgetting.ForgetAttempt.TheVariants as forgot

-- 1 where the next step of an asking is an exchange, of the key word or of a call word
abbrev pub asks_by : AskStep → ℕ
asks_by (ask.Lead seen f) = 1
asks_by (ask.Enter c seen) = 1
asks_by _ = 0

-- 1 where the next step of a Forget is an exchange. The clear after a close is none: the Forget is made by then, and does not do that again.
abbrev pub forgets_by : ForgetStep → ℕ
forgets_by (forget.Close c seen) = 1
forgets_by (forget.FirstClear c) = 1
forgets_by _ = 0

module _ {V : Type 0} where
  abbrev pub exchanges_at : Stage V → ℕ
  exchanges_at (stage.Asking k s step) = asks_by step
  exchanges_at (stage.Forgetting k target step) = forgets_by step
  exchanges_at _ = 0

  abbrev pub exchanges_by : ℕ → World V → Turn V → ℕ
  exchanges_by a w (turn.Start b o) = 0
  exchanges_by a w (turn.Step b) = if b == a then exchanges_at (w.stages a) else 0
  exchanges_by a w (turn.Leave b) = 0

  -- how many of the turns are exchanges of the caller in an asking or a Forget
  abbrev pub exchanges : ℕ → World V → List (Turn V) → ℕ
  exchanges a w [] = 0
  exchanges a w (t ∷ ts) = exchanges_by a w t + exchanges a (turned w t) ts

  -- the same of a schedule
  abbrev pub exchanges_of : Sizes → ℕ → List (Turn V) → ℕ
  exchanges_of z a ts = exchanges a (first_world z.callers z.first) ts

  -- of all turns that the caller knows then, so many more are exchanges of it
  abbrev pub HasExchanged : Sizes → ℕ → ℕ → View V → View V → Type 0
  HasExchanged z a n v w = exchanges_of z a w.known.turns ≡ exchanges_of z a v.known.turns + n

  -- how often an asking of so many tries made an exchange: so often where all failed, and else at most so often
  abbrev pub HasTriedSo : Sizes → ℕ → ℕ → View V → View V → AskAttempt → Type 0
  HasTriedSo z a tries v w (Led after) = exchanges_of z a w.known.turns ≤ exchanges_of z a v.known.turns + tries
  HasTriedSo z a tries v w (Joined c) = exchanges_of z a w.known.turns ≤ exchanges_of z a v.known.turns + tries
  HasTriedSo z a tries v w Lost = HasExchanged z a tries v w

  -- the same of a Forget: one attempt, which may find nothing to exchange, and so many tries
  abbrev pub HasForgotBy : Sizes → ℕ → View V → View V → ForgetAttempt → Type 0
  HasForgotBy z a v w (forgot.Closed c) = HasExchanged z a 1 v w
  HasForgotBy z a v w (forgot.Cleared c) = HasExchanged z a 1 v w
  HasForgotBy z a v w forgot.Missed = HasExchanged z a 0 v w
  HasForgotBy z a v w forgot.Lost = HasExchanged z a 1 v w

  abbrev pub HasForgotSo : Sizes → ℕ → ℕ → View V → View V → ForgetAttempt → Type 0
  HasForgotSo z a tries v w (forgot.Closed c) = exchanges_of z a w.known.turns ≤ exchanges_of z a v.known.turns + tries
  HasForgotSo z a tries v w (forgot.Cleared c) = exchanges_of z a w.known.turns ≤ exchanges_of z a v.known.turns + tries
  HasForgotSo z a tries v w forgot.Missed = exchanges_of z a w.known.turns ≤ exchanges_of z a v.known.turns + tries
  HasForgotSo z a tries v w forgot.Lost = HasExchanged z a tries v w

  -- the caller knows more then, in which at most so many turns are exchanges of it; and so many of them are
  abbrev pub TriesAtMost : Sizes → ℕ → ℕ → List (Turn V) → List (Turn V) → Type 0
  TriesAtMost z a n old new = (more : List (Turn V)) × (new ≡ old ++ more) × (exchanges a (world_of z old) more ≤ n)

  abbrev pub TriesJust : Sizes → ℕ → ℕ → List (Turn V) → List (Turn V) → Type 0
  TriesJust z a n old new = (more : List (Turn V)) × (new ≡ old ++ more) × (exchanges a (world_of z old) more ≡ n)
