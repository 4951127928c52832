use Rattle.std.proofs.Common.{ℕ, ◌∙◌, ap}
use Rattle.sf_steps_laws.specs.declared.operation.Stage.{Stage}
use Rattle.sf_steps.proofs.world.World.close_to_forget.Goals as goal

pub forgets_on-requires-clause-forgets : goal.forgets_on-requires-clause-forgets
forgets_on-requires-clause-forgets g c =
    (c.requires.forgets.0, ap (λ (row : ℕ → Stage g.row.V.Denot). row c.args.caller) c.exchange_call-done.ensures.stages ∙ c.requires.forgets.1)

pub forgets_on-requires-else-done-clause-forgets : goal.forgets_on-requires-else-done-clause-forgets
forgets_on-requires-else-done-clause-forgets g c =
    (c.requires.forgets.0, ap (λ (row : ℕ → Stage g.row.V.Denot). row c.args.caller) c.exchange_call-done.ensures.stages ∙ c.requires.forgets.1)
