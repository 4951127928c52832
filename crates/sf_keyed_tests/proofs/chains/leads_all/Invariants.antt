use Rattle.sf_keyed_chain.specs.Chains.{IsOf}
use Rattle.sf_keyed_tests.proofs.chains.leads_all.Given as goal

abbrev pub invariant-loop-at : goal.invariant-loop-at
invariant-loop-at l = IsOf l.chain l.me
