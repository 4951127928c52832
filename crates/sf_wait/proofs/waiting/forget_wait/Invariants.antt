use Rattle.sf_group_rows.specs.Same.{IsStill}
use Rattle.sf_wait.proofs.waiting.forget_wait.Given as goal

-- the caller is the one from the start
abbrev pub invariant-loop : goal.invariant-loop
invariant-loop g l =
    (goal.iterator-loop g).can_next l.iterator'
    × (goal.iterator-loop g).is_finite l.iterator'
    × IsStill l.fn.caller l.caller
