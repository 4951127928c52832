use Rattle.std.proofs.Common.{ℕ, Option, None, subst}
use Rattle.sf_steps_laws.specs.Turns.{at_members}
use Rattle.sf_steps_laws.specs.Events.{settled}
use Rattle.sf_group_steps.specs.Settles.{call_of, HasSettled}
use Rattle.sf_group_steps.specs.Stands.{Goes}
use Rattle.sf_group_steps.proofs.CountSteps.{counted_all}
use Rattle.sf_group_steps.proofs.counting.settle_and_count.Goals as goal

pub returns-in_default-clause-settled : goal.returns-in_default-clause-settled
returns-in_default-clause-settled g c =
    let r = c.args.actor in
    let v = c.args.seat.now.me.0 in
    let w = c.settle_often-top.new.seat.me.0 in
    let x = c.args.value.now in
    let has = subst (λ (o : Option ℕ). HasSettled r.sizes r.number r.place c.args.generation c.args.own x v w o) c.in_default.is c.settle_often-top.ensures.settled in
    subst (λ (n : ℕ). Goes r.sizes r.number v w (at_members r.place c.args.generation c.args.own x 0 None) (settled r.number (call_of r.number c.args.generation) c.args.own x n None) 0) has.number has.goes

pub count_joiners-joiners-requires-clause-settles : goal.count_joiners-joiners-requires-clause-settles
count_joiners-joiners-requires-clause-settles g c =
    let r = c.args.actor in
    (subst (λ (o : Option ℕ). HasSettled r.sizes r.number r.place c.args.generation c.args.own c.args.value.now c.args.seat.now.me.0 c.settle_often-top.new.seat.me.0 o) c.in-Some.is c.settle_often-top.ensures.settled).goes.sits

pub returns-clause-settled : goal.returns-clause-settled
returns-clause-settled g c =
    let r = c.args.actor in
    let v = c.args.seat.now.me.0 in
    let w = c.settle_often-top.new.seat.me.0 in
    let x = c.args.value.now in
    let has = subst (λ (o : Option ℕ). HasSettled r.sizes r.number r.place c.args.generation c.args.own x v w o) c.in-Some.is c.settle_often-top.ensures.settled in
    counted_all c.args.seat.now.table_id r.sizes r.number r.place c.args.generation has.joiners c.count_joiners-joiners.result c.in-Some.first c.args.own x v w c.count_joiners-joiners.new.seat.me.0 has.goes c.count_joiners-joiners.ensures.counted
