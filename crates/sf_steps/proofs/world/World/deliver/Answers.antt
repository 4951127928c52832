use Rattle.sf_steps.specs.Running.{world_of}
use Rattle.sf_steps.proofs.Worlds.{deliver_done}
use Rattle.sf_steps.proofs.world.World.deliver.Goals as goal

pub returns-clause-world : goal.returns-clause-world
returns-clause-world g c =
    deliver_done (world_of c.args.self.now) (world_of c.pass_on.new.self) (world_of c.put_letter.new.self) c.args.led.call.caller c.args.led.place c.args.led.call.generation c.args.led.own c.requires.settles.0 c.in_ok-value.value c.args.joiners c.args.member c.args.next c.requires.settles.1 c.in_ok-value.ensures.value c.in_ok-value.ensures.world c.put_letter.ensures.world
