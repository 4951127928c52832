use Rattle.std.proofs.Common.{◌≡◌, ◌++◌, map, length, take}
use Rattle.std.specs.Vec.Iter.{into_iter_items, into_iter_len}
use Rattle.sf_replay.proofs.merging_times.with_times.Given as goal

abbrev pub invariant-loop-event : goal.invariant-loop-event
invariant-loop-event l = (l.yielded ++ into_iter_items l.event-iterator ≡ l.fn.events.items)
    × (map (λ t. t.event) l.timed.items ≡ l.yielded)
    × (map (λ t. t.standing) l.timed.items ≡ take (length l.yielded) l.standings)
    × (map (λ t. t.time) l.timed.items ≡ take (length l.yielded) l.times)
    × (into_iter_len l.event-iterator ≡ length (into_iter_items l.event-iterator))
