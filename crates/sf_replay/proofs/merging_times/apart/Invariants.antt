use Rattle.std.proofs.Common.{◌≡◌, ◌++◌, map, length}
use Rattle.std.specs.Vec.Iter.{into_iter_items, into_iter_len}
use Rattle.sf_replay.proofs.merging_times.apart.Given as goal

abbrev pub invariant-loop-one : goal.invariant-loop-one
invariant-loop-one l = (l.yielded ++ into_iter_items l.one-iterator ≡ l.fn.timed.items)
    × (l.events.items ≡ map (λ t. t.event) l.yielded)
    × (l.times.items ≡ map (λ t. t.time) l.yielded)
    × (into_iter_len l.one-iterator ≡ length (into_iter_items l.one-iterator))
