use Rattle.std.proofs.Common.{◌<◌, ◌≤◌, ◌+◌, length}
use Rattle.sf_keyed_words.specs.Rule.{number}
use Rattle.sf_keyed_chain.specs.Chains.{IsOf, AllHeard, IsGoneBefore}
use Rattle.sf_keyed_chain.proofs.chain.KeyedChain.ask.Given as goal

abbrev pub invariant-loop : goal.invariant-loop
invariant-loop l = IsOf l.fn.self l.me × AllHeard l.fn.me l.me × (l.at < length l.me) × IsGoneBefore (number l.name) l.at l.me × (l.counter ≤ l.at + length l.me)
