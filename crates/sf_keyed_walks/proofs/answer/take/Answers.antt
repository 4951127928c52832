use Rattle.std.proofs.Common.{◌∙◌}
use Rattle.sf_keyed_walks.proofs.Origins.{taken_from}
use Rattle.sf_keyed_walks.proofs.answer.take.Goals as goal

pub returns-clause-taken : goal.returns-clause-taken
returns-clause-taken c value is =
    taken_from c.args.seat.now.me.0 c.look.new.seat.me.0 c.leave_call.new.seat.me.0 c.args.call value (c.look.ensures.looked value (c.in_ok-value.was ∙ is)) c.leave_call.ensures.left
