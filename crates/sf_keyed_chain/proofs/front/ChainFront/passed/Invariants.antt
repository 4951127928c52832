use Rattle.std.proofs.Common.{ℕ}
use Rattle.sf_keyed_chain.specs.Chains.{IsGoneBefore}
use Rattle.sf_keyed_chain.proofs.front.ChainFront.passed.Given as goal

abbrev pub invariant-loop-at : goal.invariant-loop-at
invariant-loop-at l = (k : ℕ) → IsGoneBefore k l.at l.self
