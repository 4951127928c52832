-- the events so far, as records have them
use Rattle.std.proofs.Common.{◌≡◌, ◌++◌, map, length}
use Rattle.std.specs.Vec.Iter.{into_iter_items, into_iter_len}
use Rattle.sf_cli_drive.specs.Found.{empty_settled}
use Rattle.sf_replay.specs.TextKeys.{with_text_keys}
use Rattle.sf_cli_drive.proofs.found.records.Given as goal

abbrev pub invariant-loop-event : goal.invariant-loop-event
invariant-loop-event l = (l.yielded ++ into_iter_items l.event-iterator ≡ with_text_keys l.fn.history)
    × (l.settled.items ≡ map empty_settled l.yielded)
    × (into_iter_len l.event-iterator ≡ length (into_iter_items l.event-iterator))
