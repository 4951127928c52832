use Rattle.std.proofs.Common.{◌≡◌, ◌⊎◌}
use Rattle.sf_group_rows.specs.Same.{IsStill, IsUnspent}
use Rattle.sf_wait.proofs.waiting.begin_wait.Given as goal

-- the caller is the one from the start; once it was refused as busy, it is known to have a generation left
abbrev pub invariant-loop : goal.invariant-loop
invariant-loop g l =
    (goal.iterator-loop g).can_next l.iterator'
    × (goal.iterator-loop g).is_finite l.iterator'
    × IsStill l.fn.caller l.asking
    × ((l.asking ≡ l.fn.caller) ⊎ IsUnspent l.fn.caller)
