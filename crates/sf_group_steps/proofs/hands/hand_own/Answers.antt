use Rattle.std.proofs.Common.{◌∷◌, [], Option, sym, subst}
use Rattle.sf_history.specs.declared.call.CallId.{CallId}
use Rattle.sf_history.specs.declared.event.Event.TheVariants.{Handed}
use Rattle.sf_steps_laws.specs.declared.operation.Stage.TheVariants.{Free, Settling}
use Rattle.sf_steps_laws.specs.declared.operation.SettleStep.TheVariants as settle
use Rattle.sf_group_steps.specs.Settles.{call_of}
use Rattle.sf_group_steps.specs.View.{history_of}
use Rattle.sf_group_steps.specs.Stands.{Sits}
use Rattle.sf_group_steps.proofs.Handing.{own_caller, fits_goes, goes_hand_own}
use Rattle.sf_group_steps.proofs.hands.hand_own.Goals as goal

pub peek_own-generation-requires-clause-member : goal.peek_own-generation-requires-clause-member
peek_own-generation-requires-clause-member g c =
    let r = c.args.actor in
    let d = c.args.delivery in
    let x = c.args.value.now in
    own_caller r.sizes r.number r.place d.generation c.args.channel x d.joiners c.args.seat.now.me.0
    (subst (λ (o : Option CallId). Sits r.sizes r.number c.args.seat.now.me.0 (Settling r.place d.generation o x (settle.PeekOwn d.joiners))) c.requires.channel c.requires.settles)

pub deliver_own-requires-clause-member : goal.deliver_own-requires-clause-member
deliver_own-requires-clause-member g c =
    let r = c.args.actor in
    let d = c.args.delivery in
    let x = c.args.value.now in (
      own_caller r.sizes r.number r.place d.generation c.args.channel x d.joiners c.args.seat.now.me.0
          (subst (λ (o : Option CallId). Sits r.sizes r.number c.args.seat.now.me.0 (Settling r.place d.generation o x (settle.PeekOwn d.joiners))) c.requires.channel c.requires.settles),
      c.peek_own-generation.ensures.generation,
    )

pub deliver_own-requires-clause-fits : goal.deliver_own-requires-clause-fits
deliver_own-requires-clause-fits g c =
    let r = c.args.actor in
    let d = c.args.delivery in
    let k = call_of r.number d.generation in
    let x = c.args.value.now in
    let one = fits_goes g.V.Fit.fits g.V.Fit.lasts r.sizes r.number r.place 0 k x c.args.seat.now.me.0 c.peek_own-generation.new.seat.me.0 _ [] (c.args.channel.caller ∷ []) c.requires.fits c.peek_own-generation.ensures.told in
    subst (λ y. g.V.Fit.fits r.place k y (history_of r.sizes c.peek_own-generation.new.seat.me.0.known.turns)) (sym c.in_ok-copy.ensures.equal) one

pub returns-clause-handed : goal.returns-clause-handed
returns-clause-handed g c =
    let r = c.args.actor in
    let d = c.args.delivery in
    goes_hand_own r.sizes r.number c.args.seat.now.me.0 c.peek_own-generation.new.seat.me.0 c.deliver_own.new.seat.me.0 _ Free (Handed r.number (call_of r.number d.generation) ∷ []) (c.args.channel.caller ∷ [])
    c.peek_own-generation.ensures.told c.deliver_own.ensures.told

pub wake-requires-clause-caller : goal.wake-requires-clause-caller
wake-requires-clause-caller g c =
    let r = c.args.actor in
    let d = c.args.delivery in
    let x = c.args.value.now in
    own_caller r.sizes r.number r.place d.generation c.args.channel x d.joiners c.args.seat.now.me.0
    (subst (λ (o : Option CallId). Sits r.sizes r.number c.args.seat.now.me.0 (Settling r.place d.generation o x (settle.PeekOwn d.joiners))) c.requires.channel c.requires.settles)
