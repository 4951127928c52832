use Rattle.std.proofs.Common.{rules, ◌<◌, ◌-◌, length, length-set}
use Rattle.sf_keyed.specs.Calls.{IsClaimed}
use Rattle.sf_keyed_chain.proofs.Sights.{called_in}
use Rattle.sf_keyed_chain.proofs.chain.KeyedChain.claim.Goals as goal

pub returns-clause-claimed : goal.returns-clause-claimed
returns-clause-claimed c =
    let some = c.requires.of.some in
    let at = c.len-at.result - 1 in
    let within : at < length c.args.me.now = search (rules, some) in
    (at, search (rules, some, length-set), called_in (λ b a. IsClaimed b a c.args.cell c.claim.result) at c.args.me.now c.me.inside.parts.items c.index_mut.result.now c.claim.new.self c.me.view_is within c.index_mut.ensures.value c.claim.ensures.later c.claim.ensures.claimed)
