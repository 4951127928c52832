use Rattle.std.proofs.Common.{subst}
use Rattle.sf_group_rows.proofs.RowsAfter.{chan_begun_after}
use Rattle.sf_group_rows.proofs.Refused.{chan_spent_before, chan_busy_before}
use Rattle.sf_group.specs.Calls.{HasNotBegunChan}
use Rattle.sf_wait.proofs.waiting.do_chan.Goals as goal

pub returns-in-Ok-clause-begun : goal.returns-in-Ok-clause-begun
returns-in-Ok-clause-begun g c =
    let i = c.loop.invariant in
    chan_begun_after c.args.caller c.args.second c.loop.asking c.loop.other c.args.place c.in-Ok.begun i.2 i.3 c.in-Ok.ensures.begun

pub returns-in-Err-Spent-clause-spent : goal.returns-in-Err-Spent-clause-spent
returns-in-Err-Spent-clause-spent g c =
    let refused = subst (λ r. HasNotBegunChan c.loop.asking c.loop.other c.args.place _ r) c.in-Err-Spent.field-0-is c.in-Err-Spent.ensures.refused in
    let i = c.loop.invariant in
    chan_spent_before c.args.caller c.args.second c.loop.asking c.loop.other c.in-Err-Spent.back.0 c.in-Err-Spent.back.1 i.2 i.3 i.4 refused

pub loop-preserved : goal.loop-preserved
loop-preserved g c =
    let refused = subst (λ r. HasNotBegunChan c.loop.asking c.loop.other c.args.place _ r) c.in-Err-Busy.field-0-is c.in-Err-Busy.ensures.refused in
    let i = c.loop.invariant in
    let still = chan_busy_before c.args.caller c.args.second c.loop.asking c.loop.other c.in-Err-Busy.back c.in-Err-Busy.second_back i.2 i.3 refused.0.unspent refused.0.second_unspent refused.0.nothing refused.0.second_nothing in
    (tt, tt, still.0, still.1, still.2)
