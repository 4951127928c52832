use Rattle.sf_steps.specs.Running.{world_of}
use Rattle.sf_steps.proofs.Worlds.{deliver_own_done}
use Rattle.sf_steps.proofs.world.World.deliver_own.Goals as goal

pub returns-clause-world : goal.returns-clause-world
returns-clause-world g c =
    deliver_own_done (world_of c.args.self.now) (world_of c.take_result-value.new.self) (world_of c.put_letter.new.self) c.args.led.call.caller c.args.led.place c.args.led.call.generation c.args.led.own c.requires.settles.0 c.take_result-value.result c.args.joiners c.args.member c.requires.settles.1 c.take_result-value.ensures.value c.take_result-value.ensures.world c.put_letter.ensures.world
