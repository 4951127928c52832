use Rattle.std.proofs.Common.{◌≡◌, ◌++◌, map, length, take}
use Rattle.std.specs.Vec.Iter.{into_iter_items, into_iter_len}
use Rattle.sf_replay.proofs.merging.with_standings.Given as goal

abbrev pub invariant-loop-event : goal.invariant-loop-event
invariant-loop-event g l = (l.yielded ++ into_iter_items l.event-iterator ≡ l.fn.events.items)
    × (map (λ p. p.event) l.placed.items ≡ l.yielded)
    × (map (λ p. p.standing) l.placed.items ≡ take (length l.yielded) l.standings)
    × (into_iter_len l.event-iterator ≡ length (into_iter_items l.event-iterator))
