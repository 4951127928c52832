use Rattle.std.proofs.Common.{◌≡◌}
use Rattle.sf_keyed_words.specs.Rule.{number}
use Rattle.sf_keyed_walks.specs.Walk.{Stays, HasLooked, Shown}
use Rattle.sf_keyed_walks.proofs.walk.walk_sides.Given as goal

abbrev pub invariant-loop-at : goal.invariant-loop-at
invariant-loop-at l =
    (l.seat.table_id ≡ l.fn.words.table_id) × Stays l.fn.seat.me.0 l.seat.me.0 × HasLooked l.seat.me.0 l.slot l.found l.at (number l.name) × Shown l.sizes l.slot l.at l.fn.seat.me.0 l.seat.me.0 l.fn.before.aside l.on
