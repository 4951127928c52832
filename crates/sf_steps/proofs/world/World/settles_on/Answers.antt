use Rattle.sf_steps.specs.Running.{world_of}
use Rattle.sf_steps.proofs.Worlds.{settle_goes_on}
use Rattle.sf_steps.proofs.world.World.settles_on.Goals as goal

pub returns-clause-world : goal.returns-clause-world
returns-clause-world g c =
    settle_goes_on (world_of c.args.self.now) (world_of c.take_stage.new.self) (world_of c.set_stage.new.self) c.args.caller c.in-Settling.place c.in-Settling.generation c.in-Settling.own c.in-Settling.result c.in-Settling.step c.args.step c.take_stage.result c.take_stage.ensures.same c.in-Settling.is c.take_stage.ensures.world c.set_stage.ensures.world
