use Rattle.std.proofs.Common.{◌∙◌}
use Rattle.sf_keyed_words.specs.Rule.{number}
use Rattle.sf_keyed_walks.proofs.Origins.{closed_from, none_from, other_from}
use Rattle.sf_keyed_walks.proofs.often.forget_often.Goals as goal

pub returns-in-Closed-clause-closed : goal.returns-in-Closed-clause-closed
returns-in-Closed-clause-closed c call is =
    let f = c.forget_once.ensures.closed call (c.in-Closed.is ∙ is) in (closed_from c.args.seat.now.me.0 c.loop-at.seat.me.0 c.forget_once.new.seat.me.0 call (number c.args.name) c.loop-at.invariant.1 f.0, f.1)

pub returns-in-Other-clause-other : goal.returns-in-Other-clause-other
returns-in-Other-clause-other c call is =
    let f = c.forget_once.ensures.other call (c.in-Other.is ∙ is) in (other_from c.args.seat.now.me.0 c.loop-at.seat.me.0 c.forget_once.new.seat.me.0 call (number c.args.name) c.args.only c.loop-at.invariant.1 f.0, f.1)

pub returns-in-Nothing-clause-nothing : goal.returns-in-Nothing-clause-nothing
returns-in-Nothing-clause-nothing c is =
    let f = c.forget_once.ensures.nothing (c.in-Nothing.is ∙ is) in (none_from c.args.seat.now.me.0 c.loop-at.seat.me.0 c.forget_once.new.seat.me.0 (number c.args.name) c.loop-at.invariant.1 f.0, f.1)

pub returns-in-Gone-clause-gone : goal.returns-in-Gone-clause-gone
returns-in-Gone-clause-gone c is =
    let f = c.forget_once.ensures.gone (c.in-Gone.is ∙ is) in (none_from c.args.seat.now.me.0 c.loop-at.seat.me.0 c.forget_once.new.seat.me.0 (number c.args.name) c.loop-at.invariant.1 f.0, f.1)
