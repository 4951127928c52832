use Rattle.std.proofs.Common.{◌∙◌, ap}
use Rattle.sf_steps_laws.specs.Stages.{second_in}
use Rattle.sf_steps.proofs.world.World.asks_on.Goals as goal

pub set_stage-requires-clause-second : goal.set_stage-requires-clause-second
set_stage-requires-clause-second g c = λ b has. c.args.self.now.paired c.args.caller b (ap second_in c.requires.asks.1 ∙ has)
