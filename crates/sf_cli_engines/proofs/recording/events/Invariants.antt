-- the events of the steps so far
use Rattle.std.proofs.Common.{◌≡◌, ◌++◌, length}
use Rattle.std.specs.List.{flat_map}
use Rattle.std.specs.Vec.Iter.{into_iter_items, into_iter_len}
use Rattle.sf_cli_engines.proofs.recording.events.Given as goal

abbrev pub invariant-loop-step : goal.invariant-loop-step
invariant-loop-step l = (l.yielded ++ into_iter_items l.step-iterator ≡ l.fn.steps.items)
    × (l.all.items ≡ flat_map (λ s. s.events.items) l.yielded)
    × (into_iter_len l.step-iterator ≡ length (into_iter_items l.step-iterator))
