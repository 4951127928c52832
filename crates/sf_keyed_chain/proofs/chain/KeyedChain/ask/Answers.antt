use Rattle.std.proofs.Common.{subst}
use Rattle.sf_keyed_words.specs.Rule.{number}
use Rattle.sf_keyed_chain.specs.Went.{HasStepped}
use Rattle.sf_keyed_chain.proofs.Ends.{joined_from, led_from, refused_from}
use Rattle.sf_keyed_chain.proofs.chain.KeyedChain.ask.Goals as goal

pub returns-in-Led-clause-replied : goal.returns-in-Led-clause-replied
returns-in-Led-clause-replied c =
    led_from c.args.self.now (number c.args.name) c.in-Led.flight c.in-Led.stamp c.args.me.now c.loop.me c.step.new.me c.loop.invariant.1
    (subst (HasStepped c.args.self.now (number c.args.name) c.loop.at c.args.tries c.loop.me c.step.new.me) c.in-Led.is c.step.ensures.stepped)

pub returns-in-Joined-clause-replied : goal.returns-in-Joined-clause-replied
returns-in-Joined-clause-replied c =
    joined_from c.args.self.now (number c.args.name) c.in-Joined.ticket c.args.me.now c.loop.me c.step.new.me c.loop.invariant.1
    (subst (HasStepped c.args.self.now (number c.args.name) c.loop.at c.args.tries c.loop.me c.step.new.me) c.in-Joined.is c.step.ensures.stepped)

pub returns-in-Refused-clause-replied : goal.returns-in-Refused-clause-replied
returns-in-Refused-clause-replied c =
    let r = subst (HasStepped c.args.self.now (number c.args.name) c.loop.at c.args.tries c.loop.me c.step.new.me) c.in-Refused.is c.step.ensures.stepped in
    (r.0, refused_from (number c.args.name) c.args.tries c.in-Refused.why r.0 c.args.me.now c.loop.me c.step.new.me c.loop.invariant.1 r.1)
