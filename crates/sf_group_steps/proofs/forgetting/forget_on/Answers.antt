use Rattle.std.proofs.Common.{◌≡◌, ◌∙◌, sym, subst}
use Rattle.sf_words.specs.declared.call_word.CallState.TheVariants.{Open}
use Rattle.sf_steps_laws.specs.World.{open_in}
use Rattle.sf_steps_laws.specs.Turns.{forget_peeked}
use Rattle.sf_steps_laws.specs.declared.operation.Stage.TheVariants.{Forgetting}
use Rattle.sf_steps_laws.proofs.Compared.{open_in_is}
use Rattle.sf_group_steps.specs.Stands.{Sits}
use Rattle.sf_group_steps.proofs.Forgets.{cleared_later, closed_later, peeked_missed, peeked_on}
use Rattle.sf_group_steps.proofs.forgetting.forget_on.Goals as goal

pub returns-then-misses-clause-forgot : goal.returns-then-misses-clause-forgot
returns-then-misses-clause-forgot g c =
    peeked_missed c.args.actor.sizes c.args.actor.number c.args.actor.place c.args.target c.args.called c.forget_peek-word.result c.args.seat.now.me.0 c.forget_peek-word.new.seat.me.0
    c.requires.meant (sym c.misses.ensures ∙ c.if-misses.true) c.forget_peek-word.ensures.told

pub close_on-requires-clause-asks : goal.close_on-requires-clause-asks
close_on-requires-clause-asks g c =
    let called = c.args.called in
    let w = c.forget_peek-word.new.seat.me.0 in
    let stays = peeked_on c.args.actor.sizes c.args.actor.number c.args.actor.place c.args.target called c.forget_peek-word.result c.args.seat.now.me.0 w (sym c.misses.ensures ∙ c.if-misses.false) c.forget_peek-word.ensures.told in
    subst (λ o. Sits c.args.actor.sizes c.args.actor.number w (Forgetting c.args.actor.place c.args.target (forget_peeked called o))) (sym c.opened.ensures ∙ c.in-Some.is) stays.goes.sits

pub clear_on-requires-clause-asks : goal.clear_on-requires-clause-asks
clear_on-requires-clause-asks g c =
    let called = c.args.called in
    let w = c.forget_peek-word.new.seat.me.0 in
    let stays = peeked_on c.args.actor.sizes c.args.actor.number c.args.actor.place c.args.target called c.forget_peek-word.result c.args.seat.now.me.0 w (sym c.misses.ensures ∙ c.if-misses.false) c.forget_peek-word.ensures.told in
    subst (λ o. Sits c.args.actor.sizes c.args.actor.number w (Forgetting c.args.actor.place c.args.target (forget_peeked called o))) (sym c.opened.ensures ∙ c.in-None.is) stays.goes.sits

pub returns-in-Some-clause-forgot : goal.returns-in-Some-clause-forgot
returns-in-Some-clause-forgot g c =
    let called = c.args.called in
    let x = c.forget_peek-word.result in
    let stays = peeked_on c.args.actor.sizes c.args.actor.number c.args.actor.place c.args.target called x c.args.seat.now.me.0 c.forget_peek-word.new.seat.me.0 (sym c.misses.ensures ∙ c.if-misses.false) c.forget_peek-word.ensures.told in
    let open_is : x ≡ Open c.in-Some.leader = (open_in_is called.generation x c.in-Some.leader (sym c.opened.ensures ∙ c.in-Some.is)).0 in
    closed_later c.args.actor.sizes c.args.actor.number c.args.actor.place c.args.target called c.args.last (Open c.in-Some.leader) c.args.seat.now.me.0 c.forget_peek-word.new.seat.me.0 c.close_on.new.seat.me.0
    (Forgetting c.args.actor.place c.args.target (forget_peeked called (open_in called.generation x))) c.close_on.result
    c.requires.meant stays.goes (c.forget_peek-word.ensures.shown ∙ open_is) c.close_on.ensures.closed

pub returns-in-None-clause-forgot : goal.returns-in-None-clause-forgot
returns-in-None-clause-forgot g c =
    let called = c.args.called in
    let x = c.forget_peek-word.result in
    let stays = peeked_on c.args.actor.sizes c.args.actor.number c.args.actor.place c.args.target called x c.args.seat.now.me.0 c.forget_peek-word.new.seat.me.0 (sym c.misses.ensures ∙ c.if-misses.false) c.forget_peek-word.ensures.told in
    cleared_later c.args.actor.sizes c.args.actor.number c.args.actor.place c.args.target called c.args.last c.args.seat.now.me.0 c.forget_peek-word.new.seat.me.0 c.clear_on.new.seat.me.0
    (Forgetting c.args.actor.place c.args.target (forget_peeked called (open_in called.generation x))) c.clear_on.result
    c.requires.meant c.requires.shown stays c.clear_on.ensures.cleared
