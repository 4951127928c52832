use Rattle.std.proofs.Common.{◌≡◌, ◌++◌, length}
use Rattle.std.specs.Vec.Iter.{into_iter_items, into_iter_len}
use Rattle.sf_replay.specs.Merged.{events_of_logs}
use Rattle.sf_replay.proofs.merging.in_one.Given as goal

abbrev pub invariant-loop-log : goal.invariant-loop-log
invariant-loop-log g l = (l.yielded ++ into_iter_items l.log-iterator ≡ l.fn.logs.items)
    × (l.events.items ≡ events_of_logs l.yielded)
    × (into_iter_len l.log-iterator ≡ length (into_iter_items l.log-iterator))
