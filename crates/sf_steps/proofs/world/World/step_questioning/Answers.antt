use Rattle.std.proofs.Common.{rules}
use Rattle.sf_steps.proofs.world.World.step_questioning.Goals as goal

-- Named, so that a wrong body is refused at once: a search that has no answer tries more.
pub returns-after-forgot-2-clause-world : goal.returns-after-forgot-2-clause-world
returns-after-forgot-2-clause-world g c = search rules

pub returns-after-forgot-2-clause-answer : goal.returns-after-forgot-2-clause-answer
returns-after-forgot-2-clause-answer g c = search rules
