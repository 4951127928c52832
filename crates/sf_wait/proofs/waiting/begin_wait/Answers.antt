use Rattle.std.proofs.Common.{subst}
use Rattle.sf_group_rows.proofs.RowsAfter.{begun_after}
use Rattle.sf_group_rows.proofs.Refused.{spent_before, busy_before}
use Rattle.sf_group.specs.Calls.{HasNotBegun}
use Rattle.sf_wait.proofs.waiting.begin_wait.Goals as goal

pub returns-in-Ok-clause-begun : goal.returns-in-Ok-clause-begun
returns-in-Ok-clause-begun g c = begun_after c.args.caller c.loop.asking c.args.place c.in-Ok.begun c.loop.invariant.2 c.in-Ok.ensures.begun

pub returns-in-Err-Spent-clause-spent : goal.returns-in-Err-Spent-clause-spent
returns-in-Err-Spent-clause-spent g c =
    let refused = subst (λ r. HasNotBegun c.loop.asking c.args.place _ r) c.in-Err-Spent.field-0-is c.in-Err-Spent.ensures.refused in
    spent_before c.args.caller c.loop.asking c.in-Err-Spent.back c.loop.invariant.2 c.loop.invariant.3 refused

pub loop-preserved : goal.loop-preserved
loop-preserved g c =
    let refused = subst (λ r. HasNotBegun c.loop.asking c.args.place _ r) c.in-Err-Busy.field-0-is c.in-Err-Busy.ensures.refused in
    let still = busy_before c.args.caller c.loop.asking c.in-Err-Busy.back c.loop.invariant.2 refused.0.unspent refused.0.nothing in
    (tt, tt, still.0, still.1)
