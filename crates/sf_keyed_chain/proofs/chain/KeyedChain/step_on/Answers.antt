use Rattle.std.proofs.Common.{◌<◌, length, sym, subst, arith}
use Rattle.sf_keyed_words.specs.Rule.{number}
use Rattle.sf_keyed.specs.declared.group.Refusal.TheVariants as refusal
use Rattle.sf_keyed_chain.proofs.Sights.{all_same, done_here}
use Rattle.sf_keyed_chain.proofs.Ends.{PassedAt, joined_at, next_at, passed_on, refused_at}
use Rattle.sf_keyed_chain.proofs.chain.KeyedChain.step_on.Goals as goal

pub returns-then-is_done-clause-stepped : goal.returns-then-is_done-clause-stepped
returns-then-is_done-clause-stepped c =
    let k = number c.args.name in
    let me = c.args.me.now in
    let beyond = c.requires.at in
    let within : c.args.at < length me = omega (arith, beyond) in
    next_at k c.args.at me me (all_same me) c.requires.at (omega arith) c.requires.gone (done_here k c.args.at me c.me.inside.parts.items c.index.result.now c.is_done.result c.me.view_is within c.index.ensures c.is_done.ensures c.if-is_done.true)

pub returns-in-Joined-clause-stepped : goal.returns-in-Joined-clause-stepped
returns-in-Joined-clause-stepped c =
    let k = number c.args.name in
    joined_at c.args.self.now k c.args.at c.args.me.now c.pass_at.new.me c.ticket_at.new.me c.in-Joined.ticket c.ticket_at.result (sym c.ticket_at.ensures.same) c.ticket_at.ensures.ticket c.requires.gone
    (subst (PassedAt k c.args.at c.args.tries c.args.me.now c.pass_at.new.me) c.in-Joined.is c.pass_at.ensures.passed)

pub returns-in-Gone-clause-stepped : goal.returns-in-Gone-clause-stepped
returns-in-Gone-clause-stepped c = passed_on (number c.args.name) c.args.at c.args.tries c.args.me.now c.pass_at.new.me c.pass_at.result c.in-Gone.is c.requires.at c.pass_at.ensures.known c.requires.gone c.pass_at.ensures.passed

pub returns-in-Busy-clause-stepped : goal.returns-in-Busy-clause-stepped
returns-in-Busy-clause-stepped c =
    let k = number c.args.name in
    (c.args.at, refused_at k c.args.at c.args.tries c.args.me.now c.pass_at.new.me refusal.Busy tt c.requires.gone (subst (PassedAt k c.args.at c.args.tries c.args.me.now c.pass_at.new.me) c.in-Busy.is c.pass_at.ensures.passed))

pub returns-in-Crowded-clause-stepped : goal.returns-in-Crowded-clause-stepped
returns-in-Crowded-clause-stepped c =
    let k = number c.args.name in
    (c.args.at, refused_at k c.args.at c.args.tries c.args.me.now c.pass_at.new.me refusal.Crowded tt c.requires.gone (subst (PassedAt k c.args.at c.args.tries c.args.me.now c.pass_at.new.me) c.in-Crowded.is c.pass_at.ensures.passed))
