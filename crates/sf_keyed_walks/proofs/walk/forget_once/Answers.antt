use Rattle.sf_keyed_words.specs.Rule.{number}
use Rattle.sf_keyed_walks.proofs.Origins.{closed_from, other_from}
use Rattle.sf_keyed_walks.proofs.walk.forget_once.Goals as goal

pub close_found-requires-clause-met : goal.close_found-requires-clause-met
close_found-requires-clause-met c = c.walk_slot.ensures.met c.in-Met.call c.in-Met.state c.in-Met.is

pub none_after-requires-clause-through : goal.none_after-requires-clause-through
none_after-requires-clause-through c = c.walk_slot.ensures.through c.in-Through.found c.in-Through.on c.in-Through.is

pub returns-in-Met-clause-closed : goal.returns-in-Met-clause-closed
returns-in-Met-clause-closed c call is =
    let f = c.close_found.ensures.closed call is in
    (closed_from c.args.seat.now.me.0 c.walk_slot.new.seat.me.0 c.close_found.new.seat.me.0 call (number c.args.name) c.walk_slot.ensures.stays f.0, f.1)

pub returns-in-Met-clause-other : goal.returns-in-Met-clause-other
returns-in-Met-clause-other c call is =
    let f = c.close_found.ensures.other call is in
    (other_from c.args.seat.now.me.0 c.walk_slot.new.seat.me.0 c.close_found.new.seat.me.0 call (number c.args.name) c.args.only c.walk_slot.ensures.stays f.0, f.1)
