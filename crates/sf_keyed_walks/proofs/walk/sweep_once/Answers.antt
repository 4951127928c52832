use Rattle.std.proofs.Common.{sym, subst}
use Rattle.sf_keyed_walks.specs.Walk.{MetNone}
use Rattle.sf_keyed_walks.proofs.Origins.{swept_sealed}
use Rattle.sf_keyed_walks.proofs.walk.sweep_once.Goals as goal

pub seal_walk-requires-clause-through : goal.seal_walk-requires-clause-through
seal_walk-requires-clause-through c = c.walk_slot.ensures.through c.in-Through.found c.in-Through.on c.in-Through.is

pub returns-then-seal_walk-clause-quiet : goal.returns-then-seal_walk-clause-quiet
returns-then-seal_walk-clause-quiet c is =
    let through = c.walk_slot.ensures.through c.in-Through.found c.in-Through.on c.in-Through.is in
    swept_sealed c.args.seat.now.me.0 c.walk_slot.new.seat.me.0 c.seal_walk.new.seat.me.0 c.args.slot c.walk_slot.ensures.stays (c.seal_walk.ensures.sealed c.if-seal_walk.true)
    (subst (λ z. MetNone z c.args.slot c.walk_slot.new.seat.me.0) (sym c.requires.sizes) (through.marks c.if-on.false))
