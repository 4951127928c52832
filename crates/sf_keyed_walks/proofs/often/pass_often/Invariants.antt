use Rattle.std.proofs.Common.{◌≡◌, ◌+◌, ◌≤◌}
use Rattle.sf_keyed_walks.specs.Walk.{Stays}
use Rattle.sf_keyed_walks.proofs.often.pass_often.Given as goal

abbrev pub invariant-loop-at : goal.invariant-loop-at
invariant-loop-at l = (l.seat.table_id ≡ l.fn.words.table_id) × Stays l.fn.seat.me.0 l.seat.me.0 × (l.fn.seat.me.0.lost + l.at ≤ l.seat.me.0.lost)
