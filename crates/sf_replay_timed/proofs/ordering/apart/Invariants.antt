use Rattle.std.proofs.Common.{◌≡◌, ◌++◌, map, length}
use Rattle.std.specs.Vec.Iter.{into_iter_items, into_iter_len}
use Rattle.sf_replay_timed.proofs.ordering.apart.Given as goal

abbrev pub invariant-loop-one : goal.invariant-loop-one
invariant-loop-one g l = (l.yielded ++ into_iter_items l.one-iterator ≡ l.fn.ranked.items)
    × (l.events.items ≡ map (λ r. r.event) l.yielded)
    × (l.times.items ≡ map (λ r. r.time) l.yielded)
    × (into_iter_len l.one-iterator ≡ length (into_iter_items l.one-iterator))
