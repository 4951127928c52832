use Rattle.std.proofs.Common.{◌≡◌, ◌++◌, map, length, take}
use Rattle.std.specs.Vec.Iter.{into_iter_items, into_iter_len}
use Rattle.sf_replay_timed.proofs.ordering.with_ranks.Given as goal

abbrev pub invariant-loop-event : goal.invariant-loop-event
invariant-loop-event g l = (l.yielded ++ into_iter_items l.event-iterator ≡ l.fn.events.items)
    × (map (λ r. r.event) l.ranked.items ≡ l.yielded)
    × (map (λ r. r.time) l.ranked.items ≡ take (length l.yielded) l.times)
    × (into_iter_len l.event-iterator ≡ length (into_iter_items l.event-iterator))
