use Rattle.std.proofs.Common.{◌<◌, length}
use Rattle.sf_keyed_words.specs.Rule.{number}
use Rattle.sf_keyed_chain.specs.Chains.{IsOf, AllHeard, IsEndedBefore, IsGoneBefore}
use Rattle.sf_keyed_chain.proofs.chain.KeyedChain.forget.Given as goal

abbrev pub invariant-loop-at : goal.invariant-loop-at
invariant-loop-at l = IsOf l.fn.self l.me × AllHeard l.fn.me l.me × (l.at < length l.me) × IsGoneBefore (number l.name) l.at l.me × IsEndedBefore (number l.name) l.at l.fn.me l.me
