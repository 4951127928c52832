use Rattle.sf_group_rows.proofs.RowsAfter.{forgotten_after}
use Rattle.sf_wait.proofs.waiting.forget_wait.Goals as goal

pub returns-in-Ok : goal.returns-in-Ok
returns-in-Ok g c = forgotten_after c.args.caller.now c.loop.caller c.forget.new.caller c.args.place c.in-Ok.forgotten c.loop.invariant.2 c.in-Ok.ensures.forgotten
