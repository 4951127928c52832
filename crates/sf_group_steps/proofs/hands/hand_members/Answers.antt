use Rattle.std.proofs.Common.{◌∙◌, [], List, sym, subst, refl, Option}
use Rattle.sf_history.specs.declared.event.Event.{Event}
use Rattle.sf_steps_laws.specs.declared.operation.SettleStep.TheVariants as settle
use Rattle.sf_steps_laws.specs.Turns.{at_members}
use Rattle.sf_steps_laws.specs.Events.{handed}
use Rattle.sf_group_steps.specs.Settles.{call_of}
use Rattle.sf_group_steps.specs.Stands.{Goes}
use Rattle.sf_group_steps.specs.View.{history_of}
use Rattle.sf_group_steps.specs.Delivers.{at_step, Remains}
use Rattle.sf_group_steps.proofs.Trying.{goes_none}
use Rattle.sf_group_steps.proofs.Handing.{first_remains, later_remains, fits_goes, goes_some, handed_none}
use Rattle.sf_group_steps.proofs.hands.hand_members.Goals as goal

pub loop-served-init : goal.loop-served-init
loop-served-init g c =
    let r = c.args.actor in
    let d = c.args.delivery in
    let x = c.args.value.now in
    let v = c.args.seat.now.me.0 in
    let p = at_step r d x (settle.Follow d.joiners c.args.first) in
    record {
      own = refl;
      none = c.requires.none;
      value = refl;
      goes = subst (λ (es : List (Event _ _)). Goes r.sizes r.number v v p es 0) (sym (handed_none r.number (call_of r.number d.generation) d.own c.args.first)) (goes_none r.sizes r.number v p c.requires.settles);
      left = first_remains r d c.args.first x v c.requires.settles;
    }

pub hand_one-requires-clause-fits : goal.hand_one-requires-clause-fits
hand_one-requires-clause-fits g c =
    let r = c.args.actor in
    let d = c.args.delivery in
    let was = c.loop-served.invariant in
    let k = call_of r.number d.generation in
    subst (λ y. g.V.Fit.fits r.place k y (history_of r.sizes c.loop-served.seat.me.0.known.turns)) (sym was.value)
    (fits_goes g.V.Fit.fits g.V.Fit.lasts r.sizes r.number r.place 0 k c.args.value.now c.args.seat.now.me.0 c.loop-served.seat.me.0 (at_members r.place d.generation d.own c.args.value.now d.joiners c.loop-served.top)
    (handed r.number k d.own c.loop-served.top) [] c.requires.fits was.goes)

pub loop-served-preserved : goal.loop-served-preserved
loop-served-preserved g c =
    let r = c.args.actor in
    let d = c.args.delivery in
    let was = c.loop-served.invariant in
    let x = c.args.value.now in
    let k = call_of r.number d.generation in
    let member = c.in-Some.member in
    let v = c.args.seat.now.me.0 in
    let w = c.loop-served.seat.me.0 in
    let u = c.hand_one.new.seat.me.0 in
    let goes = subst (λ (o : Option _). Goes r.sizes r.number v w (at_members r.place d.generation d.own x d.joiners o) (handed r.number k d.own o) 0) c.in-Some.is was.goes in
    let next = subst (λ y. Goes r.sizes r.number w u (at_members r.place d.generation d.own y d.joiners c.in-Ok.next) (handed r.number k d.own c.in-Ok.next) 0) was.value c.in-Ok.ensures.handed in
    record {
      own = c.hand_one.ensures.own.0 ∙ was.own;
      none = c.hand_one.ensures.own.1;
      value = c.hand_one.ensures.value ∙ was.value;
      goes = goes_some r.sizes r.number v w u (at_step r d x (settle.Follow d.joiners member)) (at_members r.place d.generation d.own x d.joiners c.in-Ok.next) k d.own member (handed r.number k d.own c.in-Ok.next) goes next;
      left = later_remains r d member c.loop-served.served w u c.in-Ok.next (subst (λ (o : Option _). Remains r d w o c.loop-served.served) c.in-Some.is was.left) c.in-Ok.ensures.lists;
    }
