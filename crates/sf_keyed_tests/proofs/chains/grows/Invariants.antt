use Rattle.sf_keyed_chain.specs.Chains.{IsOf}
use Rattle.sf_keyed_tests.proofs.chains.grows.Given as goal

abbrev pub invariant-loop : goal.invariant-loop
invariant-loop l = IsOf l.chain l.me
