use Rattle.std.proofs.Common.{rules, ◌≡◌, ◌<◌, ◌+◌, length}
use Rattle.sf_keyed_words.specs.Rule.{number}
use Rattle.sf_keyed_chain.specs.Chains.{IsEndedIn}
use Rattle.sf_keyed_chain.proofs.Sights.{all_same, heard_on}
use Rattle.sf_keyed_chain.proofs.Ends.{closed_at, ended_on, idle_at, shut_behind, shut_on}
use Rattle.sf_keyed_chain.proofs.chain.KeyedChain.shut.Goals as goal

pub returns-in-Closed-clause-shut : goal.returns-in-Closed-clause-shut
returns-in-Closed-clause-shut c = closed_at (number c.args.name) c.args.at c.args.tries c.args.me.now c.forget_at.new.me c.forget_at.result c.in-Closed.call c.in-Closed.is c.requires.gone c.forget_at.ensures.forgotten

pub returns-in-Nothing-clause-shut : goal.returns-in-Nothing-clause-shut
returns-in-Nothing-clause-shut c = idle_at (number c.args.name) c.args.at c.args.tries c.args.me.now c.forget_at.new.me c.forget_at.result c.in-Nothing.is c.requires.gone c.forget_at.ensures.forgotten

pub returns-then-at-len-clause-shut : goal.returns-then-at-len-clause-shut
returns-then-at-len-clause-shut c =
    let ys = c.forget_at.new.me in
    let within : c.args.at + 1 < length ys = search rules in
    shut_on (number c.args.name) c.args.at c.args.tries c.args.me.now ys ys c.forget_at.result c.in-Gone.is within c.forget_at.ensures.known (search rules) c.requires.gone c.forget_at.ensures.forgotten (all_same ys)

pub returns-then-learn-clause-shut : goal.returns-then-learn-clause-shut
returns-then-learn-clause-shut c =
    let ys = c.forget_at.new.me in
    let within : c.args.at + 1 < length c.learn.new.me = search rules in
    shut_on (number c.args.name) c.args.at c.args.tries c.args.me.now ys c.learn.new.me c.forget_at.result c.in-Gone.is within c.forget_at.ensures.known (search rules) c.requires.gone c.forget_at.ensures.forgotten c.learn.ensures.heard

pub returns-else-learn-clause-shut : goal.returns-else-learn-clause-shut
returns-else-learn-clause-shut c =
    let last : c.args.at + 1 ≡ length c.forget_at.new.me = search rules in
    let same : c.learn.new.me ≡ c.forget_at.new.me = search rules in
    shut_behind (number c.args.name) c.args.at c.args.tries c.args.me.now c.forget_at.new.me c.learn.new.me c.forget_at.result c.in-Gone.is last same c.requires.gone c.forget_at.ensures.forgotten

pub returns-then-learn-clause-ended : goal.returns-then-learn-clause-ended
returns-then-learn-clause-ended c =
    let ended : IsEndedIn (number c.args.name) c.args.at c.args.me.now c.forget_at.new.me = search rules in
    ended_on (number c.args.name) c.args.at c.args.me.now c.forget_at.new.me c.learn.new.me (heard_on c.forget_at.new.me c.learn.new.me c.learn.ensures.heard) ended
