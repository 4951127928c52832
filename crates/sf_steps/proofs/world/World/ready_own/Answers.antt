use Rattle.std.proofs.Common.{ℕ, ◌∙◌, ap}
use Rattle.sf_steps_laws.specs.declared.operation.Stage.{Stage}
use Rattle.sf_steps.proofs.world.World.ready_own.Goals as goal

pub asks_on-requires-clause-asks : goal.asks_on-requires-clause-asks
asks_on-requires-clause-asks g c =
    (c.requires.asks.0, ap (λ (row : ℕ → Stage g.row.V.Denot). row c.args.caller) c.set_call.ensures.stages ∙ c.requires.asks.1)
