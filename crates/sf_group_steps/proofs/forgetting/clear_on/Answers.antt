use Rattle.std.proofs.Common.{refl}
use Rattle.sf_group_steps.proofs.forgetting.clear_on.Goals as goal

pub returns-then-first_clear-clause-cleared : goal.returns-then-first_clear-clause-cleared
returns-then-first_clear-clause-cleared g c = (refl, c.first_clear.ensures.won c.if-first_clear.true)

pub returns-else-first_clear-clause-cleared : goal.returns-else-first_clear-clause-cleared
returns-else-first_clear-clause-cleared g c = c.first_clear.ensures.lost c.if-first_clear.false
