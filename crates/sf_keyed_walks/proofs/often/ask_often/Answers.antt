use Rattle.std.proofs.Common.{◌∙◌}
use Rattle.sf_keyed_words.specs.Rule.{number}
use Rattle.sf_keyed_walks.proofs.Origins.{joined_from}
use Rattle.sf_keyed_walks.proofs.often.ask_often.Goals as goal

pub returns-in-Joined-clause-joined : goal.returns-in-Joined-clause-joined
returns-in-Joined-clause-joined c call is =
    joined_from c.args.seat.now.me.0 c.loop-at.seat.me.0 c.ask_once.new.seat.me.0 call (number c.args.name) c.loop-at.invariant.1 (c.ask_once.ensures.joined call (c.in-Joined.is ∙ is))
