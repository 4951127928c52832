use Rattle.std.proofs.Common.{ℕ, ◌∙◌, ap}
use Rattle.sf_steps_laws.specs.declared.operation.Stage.{Stage}
use Rattle.sf_steps_laws.specs.Stages.{first_in}
use Rattle.sf_steps.proofs.world.World.step_polling.Goals as goal

pub set_stage-requires-clause-alone : goal.set_stage-requires-clause-alone
set_stage-requires-clause-alone g c =
    ap first_in (ap (λ (row : ℕ → Stage g.row.V.Denot). row c.args.caller) c.set_cell.ensures.stages ∙ c.requires.polls)
