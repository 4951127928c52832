use Rattle.sf_keyed_chain.specs.Chains.{IsOf, IsTokenOf}
use Rattle.sf_keyed_tests.proofs.schedules.wait.Given as goal

abbrev pub invariant-loop : goal.invariant-loop
invariant-loop l = IsOf l.chain l.me × IsTokenOf l.chain l.ticket
