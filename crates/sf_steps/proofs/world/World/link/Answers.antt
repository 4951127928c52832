use Rattle.std.proofs.Common.{ℕ, ◌∙◌, ap}
use Rattle.sf_steps_laws.specs.declared.operation.Stage.{Stage}
use Rattle.sf_steps_laws.specs.declared.operation.AskStep.TheVariants as ask
use Rattle.sf_steps.proofs.world.World.link.Goals as goal

pub asks_on-requires-clause-asks : goal.asks_on-requires-clause-asks
asks_on-requires-clause-asks g c =
    (ask.Link c.args.call c.args.seen, ap (λ (row : ℕ → Stage g.row.V.Denot). row c.args.caller) c.set_next.ensures.stages ∙ c.requires.asks)
