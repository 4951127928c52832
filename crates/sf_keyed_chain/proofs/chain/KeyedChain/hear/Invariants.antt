use Rattle.std.proofs.Common.{◌≡◌, ◌≤◌, ◌++◌, length}
use Rattle.std.specs.Vec.Iter.{into_iter_items, into_iter_len}
use Rattle.sf_keyed_chain.specs.Chains.{IsOf, AllHeard}
use Rattle.sf_keyed_chain.specs.Notes.{HasLearned}
use Rattle.sf_keyed_chain.proofs.chain.KeyedChain.hear.Given as goal

-- what was told of the tables before this one is heard
abbrev pub invariant-loop-told : goal.invariant-loop-told
invariant-loop-told l = (l.yielded ++ into_iter_items l.told-iterator ≡ l.fn.note)
    × (into_iter_len l.told-iterator ≡ length (into_iter_items l.told-iterator))
    × (l.at ≡ length l.yielded) × (length l.yielded ≤ length l.me)
    × IsOf l.self l.me × AllHeard l.fn.me l.me × HasLearned l.yielded l.me
