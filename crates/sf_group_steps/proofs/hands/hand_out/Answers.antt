use Rattle.std.proofs.Common.{sym, subst, []}
use Rattle.sf_steps_laws.specs.Turns.{at_own}
use Rattle.sf_group_steps.specs.Settles.{call_of}
use Rattle.sf_group_steps.specs.View.{history_of}
use Rattle.sf_group_steps.specs.Delivers.{handed_list}
use Rattle.sf_group_steps.proofs.Handing.{fits_goes, goes_own}
use Rattle.sf_group_steps.proofs.hands.hand_out.Goals as goal

pub hand_own-requires-clause-fits : goal.hand_own-requires-clause-fits
hand_own-requires-clause-fits g c =
    let r = c.args.actor in
    let d = c.args.delivery in
    let k = call_of r.number d.generation in
    let x = c.args.value.now in
    subst (λ y. g.V.Fit.fits r.place k y (history_of r.sizes c.hand_list.new.seat.me.0.known.turns)) (sym c.hand_list.ensures.value)
    (fits_goes g.V.Fit.fits g.V.Fit.lasts r.sizes r.number r.place 0 k x c.args.seat.now.me.0 c.hand_list.new.seat.me.0 (at_own r.place d.generation x d.joiners d.own) (handed_list r.number k d.own c.args.top) [] c.requires.fits c.in_default.ensures.handed)

pub returns-clause-handed : goal.returns-clause-handed
returns-clause-handed g c =
    let r = c.args.actor in
    let d = c.args.delivery in
    let x = c.args.value.now in
    goes_own r.sizes r.number c.args.seat.now.me.0 c.hand_list.new.seat.me.0 c.hand_own.new.seat.me.0 (at_own r.place d.generation x d.joiners d.own) (call_of r.number d.generation) c.in-Some.channel c.args.top d.own c.in-Some.is
    c.in_default.ensures.handed c.in_default-hand_own.ensures.handed
