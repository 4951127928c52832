use Rattle.sf_group_rows.proofs.RowsAfter.{call_forgotten_after}
use Rattle.sf_wait.proofs.waiting.forget_call_wait.Goals as goal

pub returns-in-Ok : goal.returns-in-Ok
returns-in-Ok g c = call_forgotten_after c.args.caller.now c.loop.caller c.forget_call.new.caller c.args.place c.args.call c.in-Ok.hit c.loop.invariant.2 c.in-Ok.ensures.forgot
