use Rattle.std.proofs.Common.{◌∷◌, [], sym, subst}
use Rattle.sf_steps_laws.specs.Turns.{at_members}
use Rattle.sf_steps_laws.specs.Events.{handed}
use Rattle.sf_group_steps.specs.Settles.{call_of}
use Rattle.sf_group_steps.specs.View.{history_of}
use Rattle.sf_group_steps.specs.Stands.{Goes}
use Rattle.sf_group_steps.proofs.Handing.{follow_caller, fits_goes, goes_hand}
use Rattle.sf_group_steps.proofs.hands.hand_one.Goals as goal

pub follow-next-requires-clause-member : goal.follow-next-requires-clause-member
follow-next-requires-clause-member g c = follow_caller c.args.actor.sizes c.args.actor.number c.args.actor.place c.args.delivery.generation c.args.member c.args.delivery.own c.args.value.now c.args.delivery.joiners c.args.seat.now.me.0 c.requires.settles

pub peek_member-generation-requires-clause-member : goal.peek_member-generation-requires-clause-member
peek_member-generation-requires-clause-member g c = follow_caller c.args.actor.sizes c.args.actor.number c.args.actor.place c.args.delivery.generation c.args.member c.args.delivery.own c.args.value.now c.args.delivery.joiners c.args.seat.now.me.0 c.requires.settles

pub deliver-requires-clause-member : goal.deliver-requires-clause-member
deliver-requires-clause-member g c = (
  follow_caller c.args.actor.sizes c.args.actor.number c.args.actor.place c.args.delivery.generation c.args.member c.args.delivery.own c.args.value.now c.args.delivery.joiners c.args.seat.now.me.0 c.requires.settles,
  c.peek_member-generation.ensures.generation,
)

pub deliver-requires-clause-fits : goal.deliver-requires-clause-fits
deliver-requires-clause-fits g c =
    let r = c.args.actor in
    let d = c.args.delivery in
    let k = call_of r.number d.generation in
    let x = c.args.value.now in
    let one = fits_goes g.V.Fit.fits g.V.Fit.lasts r.sizes r.number r.place 0 k x c.args.seat.now.me.0 c.follow-next.new.seat.me.0 _ [] [] c.requires.fits c.follow-next.ensures.told in
    let two = fits_goes g.V.Fit.fits g.V.Fit.lasts r.sizes r.number r.place 0 k x c.follow-next.new.seat.me.0 c.peek_member-generation.new.seat.me.0 _ [] (c.args.member ∷ []) one c.peek_member-generation.ensures.told in
    subst (λ y. g.V.Fit.fits r.place k y (history_of r.sizes c.peek_member-generation.new.seat.me.0.known.turns)) (sym c.in_ok-copy.ensures.equal) two

pub returns-clause-handed : goal.returns-clause-handed
returns-clause-handed g c =
    let r = c.args.actor in
    let d = c.args.delivery in
    let es = handed r.number (call_of r.number d.generation) d.own c.follow-next.result in
    let last = subst (λ y. Goes r.sizes r.number c.peek_member-generation.new.seat.me.0 c.deliver.new.seat.me.0 (at_members r.place d.generation d.own y d.joiners c.follow-next.result) es 0) c.in_ok-copy.ensures.equal c.deliver.ensures.told in
    goes_hand r.sizes r.number c.args.seat.now.me.0 c.follow-next.new.seat.me.0 c.peek_member-generation.new.seat.me.0 c.deliver.new.seat.me.0 _ _ (at_members r.place d.generation d.own c.args.value.now d.joiners c.follow-next.result) es (c.args.member ∷ [])
    c.follow-next.ensures.told c.peek_member-generation.ensures.told last

pub returns-clause-lists : goal.returns-clause-lists
returns-clause-lists g c = λ n l is. c.deliver.ensures.lists n l (c.peek_member-generation.ensures.lists (n ∷ l) (c.follow-next.ensures.lists (n ∷ l) is))

pub wake-requires-clause-caller : goal.wake-requires-clause-caller
wake-requires-clause-caller g c = follow_caller c.args.actor.sizes c.args.actor.number c.args.actor.place c.args.delivery.generation c.args.member c.args.delivery.own c.args.value.now c.args.delivery.joiners c.args.seat.now.me.0 c.requires.settles
