use Rattle.std.proofs.Common.{◌≡◌, ◌++◌}
use Rattle.std.specs.Vec.Iter.{into_iter_items, into_iter_len}
use Rattle.std.specs.Prelude.{length}
use Rattle.sf_fill_keys.specs.Spaces.{by_directory}
use Rattle.sf_fill_keys.proofs.opening.of_directory.Given as goal

-- those that were taken out are in the list
abbrev pub invariant-loop-desk : goal.invariant-loop-desk
invariant-loop-desk l =
    goal.iterator-loop-desk.can_next l.desk-iterator
    × goal.iterator-loop-desk.is_finite l.desk-iterator
    × (l.made.items ≡ by_directory l.yielded)
    × (l.fn.desks.items ≡ l.yielded ++ into_iter_items l.desk-iterator)
    × (into_iter_len l.desk-iterator ≡ length (into_iter_items l.desk-iterator))
