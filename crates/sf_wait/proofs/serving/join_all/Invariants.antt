use Rattle.std.proofs.Common.{◌≡◌, ◌≤◌, ◌+◌, ◌++◌, length, vec_len, vec_capacity}
use Rattle.std.specs.Vec.Iter.{into_iter_items, into_iter_len}
use Rattle.sf_wait.specs.Served.{HasServed, ArePaired}
use Rattle.sf_wait.proofs.serving.join_all.Given as goal

-- those that were joined have ended
abbrev pub invariant-loop-one : goal.invariant-loop-one
invariant-loop-one g l =
    (goal.iterator-loop-one g).can_next l.one-iterator
    × (goal.iterator-loop-one g).is_finite l.one-iterator
    × ArePaired (HasServed g.V.Fit.fits g.W.Work.answers) l.yielded l.list.items
    × (l.fn.started.items ≡ l.yielded ++ into_iter_items l.one-iterator)
    × (into_iter_len l.one-iterator ≡ length (into_iter_items l.one-iterator))
    × (vec_len l.list + into_iter_len l.one-iterator ≤ vec_capacity l.list)
