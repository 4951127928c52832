use Rattle.std.proofs.Common.{ℕ, Option, sym, subst}
use Rattle.sf_steps_laws.specs.Turns.{at_members, at_own}
use Rattle.sf_group_steps.specs.Settles.{call_of}
use Rattle.sf_group_steps.specs.Stands.{Sits, Goes}
use Rattle.sf_group_steps.specs.Delivers.{handed_list}
use Rattle.sf_group_steps.proofs.Trying.{goes_none}
use Rattle.sf_group_steps.proofs.hands.hand_list.Goals as goal

pub returns-in_default-clause-handed : goal.returns-in_default-clause-handed
returns-in_default-clause-handed g c =
    let r = c.args.actor in
    let d = c.args.delivery in
    let x = c.args.value.now in
    let v = c.args.seat.now.me.0 in
    let p = at_own r.place d.generation x d.joiners d.own in
    subst (λ (o : Option ℕ). Goes r.sizes r.number v v p (handed_list r.number (call_of r.number d.generation) d.own o) 0) (sym c.in_default.is)
    (goes_none r.sizes r.number v p (subst (λ (o : Option ℕ). Sits r.sizes r.number v (at_members r.place d.generation d.own x d.joiners o)) c.in_default.is c.requires.settles))
