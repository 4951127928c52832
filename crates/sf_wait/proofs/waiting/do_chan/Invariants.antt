use Rattle.std.proofs.Common.{◌≡◌, ◌⊎◌}
use Rattle.sf_group_rows.specs.Same.{IsStill, IsUnspent}
use Rattle.sf_wait.proofs.waiting.do_chan.Given as goal

-- the same of two callers
abbrev pub invariant-loop : goal.invariant-loop
invariant-loop g l =
    (goal.iterator-loop g).can_next l.iterator'
    × (goal.iterator-loop g).is_finite l.iterator'
    × IsStill l.fn.caller l.asking
    × IsStill l.fn.second l.other
    × (((l.asking ≡ l.fn.caller) × (l.other ≡ l.fn.second)) ⊎ (IsUnspent l.fn.caller × IsUnspent l.fn.second))
