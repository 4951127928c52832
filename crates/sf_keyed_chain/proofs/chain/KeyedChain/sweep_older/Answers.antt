use Rattle.std.proofs.Common.{rules, ◌<◌, length}
use Rattle.sf_keyed_chain.proofs.Sights.{heard_in}
use Rattle.sf_keyed_chain.proofs.chain.KeyedChain.sweep_older.Goals as goal

pub returns-then-at-len-clause-heard : goal.returns-then-at-len-clause-heard
returns-then-at-len-clause-heard c =
    let within : c.passed-at.result < length c.args.me.now = search rules in
    heard_in c.passed-at.result c.args.me.now c.me.inside.parts.items c.index_mut.result.now c.sweep.new.self c.me.view_is within c.index_mut.ensures.value c.sweep.ensures.heard
