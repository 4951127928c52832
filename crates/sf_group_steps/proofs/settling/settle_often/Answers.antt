use Rattle.std.proofs.Common.{◌∙◌, refl, arith}
use Rattle.sf_steps_laws.specs.Turns.{at_count}
use Rattle.sf_steps_laws.specs.Events.{settled}
use Rattle.sf_group_steps.specs.Settles.{call_of}
use Rattle.sf_group_steps.proofs.Trying.{goes_after}
use Rattle.sf_group_steps.proofs.Finishing.{closes_end}
use Rattle.sf_group_steps.proofs.SettleSteps.{fails_none, fails_again}
use Rattle.sf_group_steps.proofs.settling.settle_often.Goals as goal

pub loop-failed-init : goal.loop-failed-init
loop-failed-init g c = (refl, refl, fails_none c.args.actor.sizes c.args.actor.number c.args.actor.place c.args.generation c.args.own c.args.value.now c.args.seat.now.me.0 c.requires.leads)

pub returns-in-Some-clause-settled : goal.returns-in-Some-clause-settled
returns-in-Some-clause-settled g c =
    let was = c.loop-failed.invariant.2 in
    let top = c.in-Some.top in
    let x = c.args.value.now in
    let done = c.in-Some.ensures.settled in
    record {
      joiners = done.joiners;
      number = done.number;
      goes = goes_after c.args.actor.sizes c.args.actor.number c.args.seat.now.me.0 c.loop-failed.seat.me.0 c.settle_once.new.seat.me.0 was.at (at_count c.args.actor.place c.args.generation c.args.own x top)
          (settled c.args.actor.number (call_of c.args.actor.number c.args.generation) c.args.own x done.joiners top) 0 was.goes done.goes;
    }

pub loop-failed-preserved : goal.loop-failed-preserved
loop-failed-preserved g c =
    let was = c.loop-failed.invariant in
    let own = c.settle_once.ensures.own in
    (own.0 ∙ was.0, own.1 ∙ was.1, fails_again c.args.actor.sizes c.args.actor.number c.args.actor.place c.args.generation c.loop-failed.failed 1 c.args.own c.args.value.now c.args.seat.now.me.0 c.loop-failed.seat.me.0 c.settle_once.new.seat.me.0 was.2 c.in-None.ensures.failed)

pub unreachable-requires : goal.unreachable-requires
unreachable-requires g c =
    let was = c.loop-failed.invariant.2 in
    let most = closes_end c.args.actor.sizes c.args.actor.number c.args.generation c.loop-failed.failed c.args.seat.now.me.0 c.loop-failed.seat.me.0 was.at was.goes.turns was.goes.sits was.goes.knows was.count in
    let end = c.loop-failed-test.false in
    absurd (omega (arith, most, end))
