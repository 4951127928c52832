use Rattle.std.proofs.Common.{ℕ, ◌∙◌, ap}
use Rattle.sf_steps_laws.specs.declared.operation.Stage.{Stage}
use Rattle.sf_steps_laws.specs.Stages.{first_in}
use Rattle.sf_steps.proofs.world.World.last_clear.Goals as goal

pub set_stage-requires-clause-alone : goal.set_stage-requires-clause-alone
set_stage-requires-clause-alone g c =
    ap first_in (ap (λ (row : ℕ → Stage g.row.V.Denot). row c.args.caller) c.exchange_key-done.ensures.stages ∙ c.requires.forgets.1)
