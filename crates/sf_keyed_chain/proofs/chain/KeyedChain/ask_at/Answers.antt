use Rattle.sf_keyed_words.specs.Rule.{number}
use Rattle.sf_keyed.specs.Calls.{IsAsked}
use Rattle.sf_keyed_chain.proofs.Ends.{stamped_in}
use Rattle.sf_keyed_chain.proofs.Sights.{called_in}
use Rattle.sf_keyed_chain.proofs.chain.KeyedChain.ask_at.Goals as goal

pub returns-clause-asked : goal.returns-clause-asked
returns-clause-asked c =
    called_in (λ b a. IsAsked b a (number c.args.name) c.args.tries c.ask-asked.result.0) c.args.at c.args.me.now c.me.inside.parts.items c.index_mut.result.now c.ask-asked.new.self c.me.view_is c.requires.at c.index_mut.ensures.value c.ask-asked.ensures.later c.ask-asked.ensures.asked

pub returns-clause-stamped : goal.returns-clause-stamped
returns-clause-stamped c =
    stamped_in (number c.args.name) c.args.at c.ask-asked.result.1 c.ask-asked.result.2 c.args.me.now c.me.inside.parts.items c.index_mut.result.now c.ask-asked.new.self c.me.view_is c.requires.at c.index_mut.ensures.value c.ask-asked.ensures.later c.ask-asked.ensures.slot c.ask-asked.ensures.drawn
