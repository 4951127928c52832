use Rattle.std.proofs.Common.{rules, ap, ◌∙◌}
use Rattle.sf_fill_store.specs.Found.{DrawsWithin, found_by}
use Rattle.sf_fill_counters.specs.Ledgers.{Tally}
use Rattle.sf_fill.proofs.Lookups.{asked_unmade}
use Rattle.sf_fill.proofs.Once.{asked_group}
use Rattle.sf_fill.proofs.Seats.{free_seat}
use Rattle.sf_fill.proofs.fill.Fill.ask.Goals as goal

pub take_free-caller-requires : goal.take_free-caller-requires
take_free-caller-requires g c = free_seat _ _ _ _ _ c.seat.view_is c.seat.invariant.1 c.requires.free

pub invariant_of-seat-2 : goal.invariant_of-seat-2
invariant_of-seat-2 g c = (
  c.seat.invariant.0,
  c.reply-chair.ensures.here,
  asked_group (g.L.LoadPath.run_gives c.args.key.now) (DrawsWithin g.N.Naming.limit g.L.LoadPath.draw_gives) g.N.Naming.space c.args.key.now g.N.Naming.group c.in-Ok.spot c.take_free-caller.result _ _
      (found_by c.ask-asked.result) _ (rw c.take_free-caller.ensures.taken at c.seat.invariant.2) c.ask-asked.ensures.found c.reply-chair.ensures.reply,
)

pub returns-in_default-clause-asked : goal.returns-in_default-clause-asked
returns-in_default-clause-asked g c =
    asked_unmade (g.L.LoadPath.run_gives c.args.key.now) (DrawsWithin g.N.Naming.limit g.L.LoadPath.draw_gives) g.N.Naming.space c.args.key.now _ c.args.loaders.now _ _ _ _ _ c.seat.view_is
    (free_seat _ _ _ _ _ c.seat.view_is c.seat.invariant.1 c.requires.free) c.count.new.tallies.counted (ap (λ (t : Tally). t.counted) c.count.ensures)
