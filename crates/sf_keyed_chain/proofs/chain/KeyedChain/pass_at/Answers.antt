use Rattle.sf_keyed_words.specs.Rule.{number}
use Rattle.sf_keyed.specs.Calls.{IsPassed}
use Rattle.sf_keyed_chain.proofs.Sights.{called_in}
use Rattle.sf_keyed_chain.proofs.chain.KeyedChain.pass_at.Goals as goal

pub returns-clause-passed : goal.returns-clause-passed
returns-clause-passed c =
    called_in (λ b a. IsPassed b a (number c.args.name) c.args.tries c.pass.result) c.args.at c.args.me.now c.me.inside.parts.items c.index_mut.result.now c.pass.new.self c.me.view_is c.requires.at c.index_mut.ensures.value c.pass.ensures.later c.pass.ensures.passed
