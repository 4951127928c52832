use Rattle.std.proofs.Common.{rules}
use Rattle.sf_steps.proofs.world.World.look_for_call.Goals as goal

-- Named, so that a wrong body is refused at once: a search that has no answer tries more.
pub returns-clause-world : goal.returns-clause-world
returns-clause-world g c = search rules

pub returns-clause-events : goal.returns-clause-events
returns-clause-events g c = search rules
