-- the events so far have their keys
use Rattle.std.proofs.Common.{◌≡◌, ◌++◌, length}
use Rattle.std.specs.Vec.Iter.{into_iter_items, into_iter_len}
use Rattle.sf_replay.specs.TextKeys as keyed
use Rattle.sf_replay.proofs.text_keys.with_text_keys.Given as goal

abbrev pub invariant-loop-event : goal.invariant-loop-event
invariant-loop-event g l = (l.yielded ++ into_iter_items l.event-iterator ≡ l.fn.events.items)
    × (l.keyed.items ≡ keyed.with_text_keys l.yielded)
    × (into_iter_len l.event-iterator ≡ length (into_iter_items l.event-iterator))
