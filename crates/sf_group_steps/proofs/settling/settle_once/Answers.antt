use Rattle.sf_steps_laws.specs.Turns.{at_count}
use Rattle.sf_steps_laws.specs.Events.{settled}
use Rattle.sf_steps_laws.specs.declared.operation.Stage.TheVariants.{Settling}
use Rattle.sf_steps_laws.specs.declared.operation.SettleStep.TheVariants as settle
use Rattle.sf_group_steps.specs.Settles.{call_of}
use Rattle.sf_group_steps.proofs.Trying.{goes_after}
use Rattle.sf_group_steps.proofs.Forgets.{goes_still}
use Rattle.sf_group_steps.proofs.SettleSteps.{peeked_open, peeked_forgot, fails_after}
use Rattle.sf_group_steps.proofs.settling.settle_once.Goals as goal

pub returns-then-close_own-clause-settled : goal.returns-then-close_own-clause-settled
returns-then-close_own-clause-settled g c =
    let v = c.args.seat.now.me.0 in
    let seen = c.in-Open.seen in
    let x = c.args.value.now in
    let won = c.close_own.ensures.won c.if-close_own.true in
    record {
      joiners = won.joiners;
      number = won.number;
      goes = goes_after c.args.actor.sizes c.args.actor.number v c.own_peek-word.new.seat.me.0 c.close_own.new.seat.me.0 (Settling c.args.actor.place c.args.generation c.args.own x (settle.Close seen)) (at_count c.args.actor.place c.args.generation c.args.own x seen.top)
          (settled c.args.actor.number (call_of c.args.actor.number c.args.generation) c.args.own x won.joiners seen.top) 0
          (peeked_open c.args.actor.sizes c.args.actor.number c.args.actor.place c.args.generation c.args.own x v c.own_peek-word.new.seat.me.0 c.own_peek-word.result seen c.in-Open.is c.own_peek-word.ensures.told)
          won.goes;
    }

pub returns-else-close_own-clause-failed : goal.returns-else-close_own-clause-failed
returns-else-close_own-clause-failed g c =
    let v = c.args.seat.now.me.0 in
    let seen = c.in-Open.seen in
    let x = c.args.value.now in
    fails_after c.args.actor.sizes c.args.actor.number c.args.actor.place c.args.generation 1 c.args.own x v c.own_peek-word.new.seat.me.0 c.close_own.new.seat.me.0 (Settling c.args.actor.place c.args.generation c.args.own x (settle.Close seen))
    (peeked_open c.args.actor.sizes c.args.actor.number c.args.actor.place c.args.generation c.args.own x v c.own_peek-word.new.seat.me.0 c.own_peek-word.result seen c.in-Open.is c.own_peek-word.ensures.told)
    (c.close_own.ensures.lost c.if-close_own.false)

pub returns-in-Forgot-clause-settled : goal.returns-in-Forgot-clause-settled
returns-in-Forgot-clause-settled g c =
    let v = c.args.seat.now.me.0 in
    let seen = c.in-Forgot.seen in
    let x = c.args.value.now in
    let told = c.own_peek-word.ensures.told in
    let both = peeked_forgot c.args.actor.sizes c.args.actor.number c.args.actor.place c.args.generation c.args.own x v c.own_peek-word.new.seat.me.0 c.own_peek-word.result seen c.in-Forgot.is told in
    record {
      joiners = told.joiners;
      number = both.1;
      goes = goes_still c.args.actor.sizes c.args.actor.number 0 v c.own_peek-word.new.seat.me.0 c.clear_own.new.seat.me.0 (Settling c.args.actor.place c.args.generation c.args.own x (settle.Clear seen.top)) (at_count c.args.actor.place c.args.generation c.args.own x seen.top)
          (settled c.args.actor.number (call_of c.args.actor.number c.args.generation) c.args.own x told.joiners seen.top) both.0 c.clear_own.ensures.told;
    }
