use Rattle.std.proofs.Common.{◌∙◌, ap}
use Rattle.sf_steps_laws.specs.Stages.{is_settling}
use Rattle.sf_steps_laws.specs.World.{World}
use Rattle.sf_steps.specs.Running.{world_of}
use Rattle.sf_steps.proofs.Worlds.{peek_done}
use Rattle.sf_steps.proofs.world.World.peek_own.Goals as goal

pub settles_on-requires-clause-settles : goal.settles_on-requires-clause-settles
settles_on-requires-clause-settles g c =
    ap (λ (x : World g.row.V.Denot). is_settling (x.stages c.args.led.call.caller)) c.settled_by_forget.ensures.world ∙ ap is_settling c.requires.settles.1

pub returns-clause-world : goal.returns-clause-world
returns-clause-world g c =
    peek_done (world_of c.args.self.now) (world_of c.settled_by_forget.new.self) (world_of c.settles_on.new.self) c.args.led.call.caller c.args.led.place c.args.led.call.generation c.args.led.own c.requires.settles.0 c.call-found.result c.after_own_peek.result c.requires.settles.1 c.call-found.ensures.same c.after_own_peek.ensures.step c.settled_by_forget.ensures.world c.settles_on.ensures.world
