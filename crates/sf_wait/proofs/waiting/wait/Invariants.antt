use Rattle.sf_group_rows.specs.Same.{IsStillTicket}
use Rattle.sf_wait.proofs.waiting.wait.Given as goal

-- the ticket is the one from the start
abbrev pub invariant-loop : goal.invariant-loop
invariant-loop g l =
    (goal.iterator-loop g).can_next l.iterator'
    × (goal.iterator-loop g).is_finite l.iterator'
    × IsStillTicket l.fn.ticket l.waiting
