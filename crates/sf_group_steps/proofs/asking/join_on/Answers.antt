use Rattle.std.proofs.Common.{refl, [], ◌∷◌, None}
use Rattle.sf_history.specs.declared.event.Event.TheVariants.{Enter}
use Rattle.sf_words.specs.CallWord.{call_code}
use Rattle.sf_words.specs.declared.call_word.CallState.TheVariants.{Open}
use Rattle.sf_steps_laws.specs.declared.operation.Stage.TheVariants.{Asking, Holding}
use Rattle.sf_steps_laws.specs.declared.operation.AskStep.TheVariants as ask
use Rattle.sf_group_steps.specs.Words.{call}
use Rattle.sf_group_steps.specs.Attempts.{lost_stage}
use Rattle.sf_group_steps.proofs.Trying.{goes_after, stays_again, loses_after}
use Rattle.sf_group_steps.proofs.asking.join_on.Goals as goal

pub returns-then-enter-clause-joined : goal.returns-then-enter-clause-joined
returns-then-enter-clause-joined g c =
    let k = c.args.actor.place in
    let both = stays_again c.args.actor.sizes c.args.actor.number c.args.seat.now.me.0 c.ready_join.new.seat.me.0 c.link.new.seat.me.0 (Asking k None (ask.Link c.args.called c.args.seen)) (Asking k None (ask.Enter c.args.called c.args.seen)) c.ready_join.ensures.told c.link.ensures.told in (
      refl,
      goes_after c.args.actor.sizes c.args.actor.number c.args.seat.now.me.0 c.link.new.seat.me.0 c.enter.new.seat.me.0 (Asking k None (ask.Enter c.args.called c.args.seen)) (Holding k c.args.generation c.args.called) (Enter c.args.actor.number k c.args.called (record { caller = c.args.actor.number; generation = c.args.generation }) ∷ []) 1
          both.goes (c.enter.ensures.won c.if-enter.true),
    )

pub returns-else-enter-clause-joined : goal.returns-else-enter-clause-joined
returns-else-enter-clause-joined g c =
    let k = c.args.actor.place in
    let both = stays_again c.args.actor.sizes c.args.actor.number c.args.seat.now.me.0 c.ready_join.new.seat.me.0 c.link.new.seat.me.0 (Asking k None (ask.Link c.args.called c.args.seen)) (Asking k None (ask.Enter c.args.called c.args.seen)) c.ready_join.ensures.told c.link.ensures.told in
    loses_after c.args.actor.sizes c.args.actor.number (call_code (Open c.args.seen)) (call c.args.called.caller) c.args.seat.now.me.0 c.link.new.seat.me.0 c.enter.new.seat.me.0 (Asking k None (ask.Enter c.args.called c.args.seen)) (lost_stage k c.args.last) c.requires.called.2
    both (c.enter.ensures.lost c.if-enter.false)
