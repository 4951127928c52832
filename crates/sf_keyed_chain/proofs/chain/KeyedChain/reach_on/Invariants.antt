use Rattle.sf_keyed_chain.specs.Chains.{IsOf, AllHeard}
use Rattle.sf_keyed_chain.proofs.chain.KeyedChain.reach_on.Given as goal

abbrev pub invariant-loop : goal.invariant-loop
invariant-loop l = IsOf l.self l.me × AllHeard l.fn.me l.me
