use Rattle.std.proofs.Common.{◌∙◌, [], Option, ℕ, refl, subst, ◌+◌, arith}
use Rattle.sf_steps_laws.specs.declared.operation.SettleStep.TheVariants as settle
use Rattle.sf_steps_laws.specs.declared.operation.Stage.TheVariants.{Settling}
use Rattle.sf_steps_laws.specs.Turns.{after_count}
use Rattle.sf_group_steps.specs.Stands.{Goes}
use Rattle.sf_group_steps.proofs.Trying.{goes_none, goes_after}
use Rattle.sf_group_steps.proofs.CountSteps.{count_caller, count_room}
use Rattle.sf_group_steps.proofs.counting.count_joiners.Goals as goal

pub loop-joiners-init : goal.loop-joiners-init
loop-joiners-init g c =
    record { own = refl; cells = refl; goes = goes_none c.args.actor.sizes c.args.actor.number c.args.seat.now.me.0 (Settling c.args.actor.place c.args.generation c.args.own c.args.value.now (settle.Count 0 c.args.top c.args.top)) c.requires.settles }

pub count_one-requires-clause-member : goal.count_one-requires-clause-member
count_one-requires-clause-member g c =
    count_caller c.args.actor.sizes c.args.actor.number c.args.actor.place c.args.generation c.loop-joiners.joiners c.loop-joiners.member c.args.top c.args.own c.args.value.now c.loop-joiners.seat.me.0 c.loop-joiners.invariant.goes.sits

pub returns-in-None-clause-counted : goal.returns-in-None-clause-counted
returns-in-None-clause-counted g c =
    let r = c.args.actor in
    let was = c.loop-joiners.invariant in
    let told = subst (λ (o : Option ℕ). Goes r.sizes r.number c.loop-joiners.seat.me.0 c.count_one.new.seat.me.0 (Settling r.place c.args.generation c.args.own c.args.value.now (after_count (c.loop-joiners.joiners + 1) c.args.top o)) [] 0) c.in-None.is c.count_one.ensures.told in
    goes_after r.sizes r.number c.args.seat.now.me.0 c.loop-joiners.seat.me.0 c.count_one.new.seat.me.0 (Settling r.place c.args.generation c.args.own c.args.value.now (settle.Count c.loop-joiners.joiners c.loop-joiners.member c.args.top))
    (Settling r.place c.args.generation c.args.own c.args.value.now (settle.Follow (c.loop-joiners.joiners + 1) c.args.top)) [] 0 was.goes told

pub loop-joiners-preserved : goal.loop-joiners-preserved
loop-joiners-preserved g c =
    let r = c.args.actor in
    let was = c.loop-joiners.invariant in
    let told = subst (λ (o : Option ℕ). Goes r.sizes r.number c.loop-joiners.seat.me.0 c.count_one.new.seat.me.0 (Settling r.place c.args.generation c.args.own c.args.value.now (after_count (c.loop-joiners.joiners + 1) c.args.top o)) [] 0) c.in-Some.is c.count_one.ensures.told in
    record {
      own = c.count_one.ensures.own.0 ∙ was.own;
      cells = c.count_one.ensures.own.1 ∙ was.cells;
      goes = goes_after r.sizes r.number c.args.seat.now.me.0 c.loop-joiners.seat.me.0 c.count_one.new.seat.me.0 (Settling r.place c.args.generation c.args.own c.args.value.now (settle.Count c.loop-joiners.joiners c.loop-joiners.member c.args.top))
          (Settling r.place c.args.generation c.args.own c.args.value.now (settle.Count (c.loop-joiners.joiners + 1) c.in-Some.next c.args.top)) [] 0 was.goes told;
    }

pub unreachable-requires : goal.unreachable-requires
unreachable-requires g c =
    let room = count_room c.args.actor.sizes c.args.actor.number c.args.actor.place c.args.generation c.loop-joiners.joiners c.loop-joiners.member c.args.top c.args.own c.args.value.now c.loop-joiners.seat.me.0 c.loop-joiners.invariant.goes.sits in
    let end = c.loop-joiners-test.false in
    absurd (omega (arith, room, end))
