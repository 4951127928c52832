use Rattle.std.proofs.Common.{rules, ◌<◌, length}
use Rattle.sf_keyed_words.specs.Rule.{number}
use Rattle.sf_keyed_chain.proofs.Ends.{forgotten_call}
use Rattle.sf_keyed_chain.proofs.chain.KeyedChain.forget_call.Goals as goal

pub returns-clause-ended : goal.returns-clause-ended
returns-clause-ended c =
    let within : c.args.stamp.table < length c.reach.new.me = search rules in
    forgotten_call (number c.args.name) c.args.call c.args.tries c.args.stamp c.args.me.now c.reach.new.me c.me.inside.parts.items c.index_mut.result.now c.forget_call.new.self c.forget_call.result c.reach.ensures.heard c.me.view_is within c.index_mut.ensures.value
    c.forget_call.ensures.later c.forget_call.ensures.ended c.forget_call.ensures.stamp
