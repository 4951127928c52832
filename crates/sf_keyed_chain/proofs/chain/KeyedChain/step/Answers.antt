use Rattle.std.proofs.Common.{rules, ◌≡◌, ◌+◌, ℕ, length, sym, subst}
use Rattle.sf_keyed_words.specs.Rule.{number}
use Rattle.sf_keyed.specs.declared.group.Refusal.TheVariants as refusal
use Rattle.sf_keyed.specs.declared.group.Asked.TheVariants as asked
use Rattle.sf_keyed_chain.specs.Went.{IsRefusedAt}
use Rattle.sf_keyed_chain.proofs.Ends.{AskedAt, again_at, joined_at, last_for, led_at, refused_at}
use Rattle.sf_keyed_chain.proofs.chain.KeyedChain.step.Goals as goal

pub returns-in-Led-clause-stepped : goal.returns-in-Led-clause-stepped
returns-in-Led-clause-stepped c =
    let last : c.args.at + 1 ≡ length c.ask_at-asked.new.me = search rules in
    led_at c.args.self.now (number c.args.name) c.args.at c.args.tries c.args.me.now c.ask_at-asked.new.me c.flight_at.new.me c.ask_at-asked.result.0 c.in-Led.flight c.flight_at.result c.ask_at-asked.result.1 c.in-Led.is last (sym c.flight_at.ensures.same) c.flight_at.ensures.flight c.ask_at-asked.ensures.table c.ask_at-asked.ensures.stamped c.requires.gone c.ask_at-asked.ensures.asked

pub returns-in-Joined-clause-stepped : goal.returns-in-Joined-clause-stepped
returns-in-Joined-clause-stepped c =
    let k = number c.args.name in
    joined_at c.args.self.now k c.args.at c.args.me.now c.ask_at-asked.new.me c.ticket_at.new.me c.in-Joined.ticket c.ticket_at.result (sym c.ticket_at.ensures.same) c.ticket_at.ensures.ticket c.requires.gone
    (subst (AskedAt k c.args.at c.args.tries c.args.me.now c.ask_at-asked.new.me) c.in-Joined.is c.ask_at-asked.ensures.asked)

pub returns-then-learn-clause-stepped : goal.returns-then-learn-clause-stepped
returns-then-learn-clause-stepped c =
    let is : c.ask_at-asked.result.0 ≡ asked.Refused refusal.Sealed = search rules in
    again_at (number c.args.name) c.args.at c.args.tries c.args.me.now c.ask_at-asked.new.me c.learn.new.me c.ask_at-asked.result.0 refusal.Sealed is c.requires.at c.ask_at-asked.ensures.known (search rules) c.requires.gone c.ask_at-asked.ensures.asked c.learn.ensures.heard

pub returns-else-learn-clause-stepped : goal.returns-else-learn-clause-stepped
returns-else-learn-clause-stepped c =
    let k = number c.args.name in
    let last : c.args.at + 1 ≡ length c.ask_at-asked.new.me = search rules in
    let same : c.learn.new.me ≡ c.ask_at-asked.new.me = search rules in
    let is : c.ask_at-asked.result.0 ≡ asked.Refused refusal.Sealed = search rules in
    subst (λ l. (at : ℕ) × IsRefusedAt k c.args.tries refusal.Sealed at c.args.me.now l) (sym same)
    (c.args.at, refused_at k c.args.at c.args.tries c.args.me.now c.ask_at-asked.new.me refusal.Sealed last c.requires.gone (subst (AskedAt k c.args.at c.args.tries c.args.me.now c.ask_at-asked.new.me) is c.ask_at-asked.ensures.asked))

pub returns-in-Refused : goal.returns-in-Refused
returns-in-Refused c =
    let k = number c.args.name in
    let last : c.args.at + 1 ≡ length c.ask_at-asked.new.me = search rules in record {
      of = c.ask_at-asked.ensures.of;
      stepped = (c.args.at, refused_at k c.args.at c.args.tries c.args.me.now c.ask_at-asked.new.me c.in-Refused.why (last_for c.in-Refused.why c.args.at (length c.ask_at-asked.new.me) last) c.requires.gone (subst (AskedAt k c.args.at c.args.tries c.args.me.now c.ask_at-asked.new.me) c.in-Refused.is c.ask_at-asked.ensures.asked));
    }
