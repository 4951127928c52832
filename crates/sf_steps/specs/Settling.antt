-- a settle's stage: the value that it holds, and where it goes on
use Rattle.std.specs.Prelude.{ℕ, Option, Some, None}
use Rattle.sf_steps_laws.specs.declared.operation.Stage.{Stage}
use Rattle.sf_steps_laws.specs.declared.operation.Stage.TheVariants.{Settling}
use Rattle.sf_steps_laws.specs.declared.operation.SettleStep.{SettleStep}
use Rattle.sf_steps_laws.specs.Turns.{at_members, at_count}

module _ {V : Type 0} where
  -- the value with which the caller settles
  abbrev pub result_in : Stage V → Option V
  result_in (Settling k g own v step) = Some v
  result_in _ = None

  -- the settle at another step
  abbrev pub settling_at : SettleStep → Stage V → Stage V
  settling_at step (Settling k g own v before) = Settling k g own v step
  settling_at step s = s

  -- the settle at the members from this top on
  abbrev pub members_at : ℕ → Option ℕ → Stage V → Stage V
  members_at joiners top (Settling k g own v before) = at_members k g own v joiners top
  members_at joiners top s = s

  -- the settle at the count of the members from this top on
  abbrev pub count_at : Option ℕ → Stage V → Stage V
  count_at top (Settling k g own v before) = at_count k g own v top
  count_at top s = s
