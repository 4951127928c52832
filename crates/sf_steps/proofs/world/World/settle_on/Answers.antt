use Rattle.std.proofs.Common.{◌∙◌, ap}
use Rattle.sf_steps_laws.specs.World.{World, with_stage}
use Rattle.sf_steps.specs.Settling.{count_at}
use Rattle.sf_steps.proofs.world.World.settle_on.Goals as goal

pub goes_to_count-requires-clause-settles : goal.goes_to_count-requires-clause-settles
goes_to_count-requires-clause-settles g c =
    (c.requires.settles.0, c.requires.settles.1, ap (λ (x : World g.row.V.Denot). x.stages c.args.led.call.caller) c.share_result.ensures.world ∙ c.requires.settles.2)

pub returns-clause-world : goal.returns-clause-world
returns-clause-world g c =
    c.goes_to_count.ensures.world ∙ ap (λ (x : World g.row.V.Denot). with_stage x c.args.led.call.caller (count_at c.args.top (x.stages c.args.led.call.caller))) c.share_result.ensures.world
