use Rattle.sf_keyed_words.specs.Rule.{number}
use Rattle.sf_keyed.specs.Calls.{IsForgotten}
use Rattle.sf_keyed_chain.proofs.Ends.{ended_in}
use Rattle.sf_keyed_chain.proofs.Sights.{called_in}
use Rattle.sf_keyed_chain.proofs.chain.KeyedChain.forget_at.Goals as goal

pub returns-clause-forgotten : goal.returns-clause-forgotten
returns-clause-forgotten c =
    called_in (λ b a. IsForgotten b a (number c.args.name) c.args.tries c.forget.result) c.args.at c.args.me.now c.me.inside.parts.items c.index_mut.result.now c.forget.new.self c.me.view_is c.requires.at c.index_mut.ensures.value c.forget.ensures.later c.forget.ensures.forgotten

pub returns-clause-ended : goal.returns-clause-ended
returns-clause-ended c done =
    ended_in (number c.args.name) c.args.at c.args.me.now c.me.inside.parts.items c.index_mut.result.now c.forget.new.self c.me.view_is c.requires.at c.index_mut.ensures.value c.forget.ensures.later (c.forget.ensures.ended done)
