use Rattle.std.proofs.Common.{◌∙◌}
use Rattle.sf_keyed_words.specs.Rule.{number}
use Rattle.sf_keyed_walks.proofs.Origins.{joined_from, none_from}
use Rattle.sf_keyed_walks.proofs.often.pass_often.Goals as goal

pub returns-in-Joined-clause-joined : goal.returns-in-Joined-clause-joined
returns-in-Joined-clause-joined c call is =
    joined_from c.args.seat.now.me.0 c.loop-at.seat.me.0 c.pass_once.new.seat.me.0 call (number c.args.name) c.loop-at.invariant.1 (c.pass_once.ensures.joined call (c.in-Joined.is ∙ is))

pub returns-in-Gone-clause-gone : goal.returns-in-Gone-clause-gone
returns-in-Gone-clause-gone c is =
    let f = c.pass_once.ensures.gone (c.in-Gone.is ∙ is) in (none_from c.args.seat.now.me.0 c.loop-at.seat.me.0 c.pass_once.new.seat.me.0 (number c.args.name) c.loop-at.invariant.1 f.0, f.1)
