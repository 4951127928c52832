use Rattle.std.proofs.Common.{◌≡◌, ◌∙◌, [], sym, ap, subst}
use Rattle.sf_history.specs.declared.event.Event.TheVariants as event
use Rattle.sf_steps_laws.specs.Turns.{at_members}
use Rattle.sf_group_rows.specs.Tokens.{GroupValue, SettledValue}
use Rattle.sf_group_rows.specs.Finishes.{IsHeldStill}
use Rattle.sf_group_rows.specs.Currents.{IsStillSaid}
use Rattle.sf_group_steps.specs.View.{sizes_of, history_of}
use Rattle.sf_group.specs.Known.{call_before, settled_of}
use Rattle.sf_group.proofs.Finishes.{fits_later}
use Rattle.sf_group.proofs.LedCalls.{placed_later}
use Rattle.sf_group.proofs.Deliveries.{stands_later, still_row, sits_now, next_now}
use Rattle.sf_group.proofs.StillRows.{still_said, owing_stays}
use Rattle.sf_group.proofs.tokens.settled.Settled.is_still_current.Goals as goal

pub invariant_of-self : goal.invariant_of-self
invariant_of-self g c =
    let s = c.self.inside in
    let led = s.leader in
    let who = led.seated in
    let call = call_before who.number who.next in
    let was = c.self.invariant in
    let v = who.seat.me.0 in
    let w = c.is_still_current.new.seat.me.0 in
    let p = at_members led.place call.generation led.own s.value s.joiners s.top in
    let same : sizes_of v ≡ c.group.inside.sizes = ap (λ (x : SettledValue _). x.group.sizes) c.self.view_is ∙ ap (λ (x : GroupValue). x.sizes) (c.requires.own ∙ sym c.group.view_is) in
    let goes = owing_stays c.group.inside.sizes who.number led.place call.generation led.own s.value s.joiners s.top v w same c.is_still_current.ensures.stays was.0 in (
      sits_now who.number 0 v w p [] goes,
      next_now who.number who.next v w p [] was.1 goes,
      c.is_still_current.ensures.own.1 ∙ was.2,
      was.3,
      fits_later g.V.Fit.fits g.V.Fit.lasts who.seat.table_id who.number 0 led.place call s.value v w p [] was.4 goes,
      stands_later who.seat.table_id who.number 0 (event.Settle call.caller call s.value s.joiners) v w p [] was.5 goes,
      placed_later who.number 0 led.place v w p [] was.6 goes,
      was.7,
      was.8,
      was.9,
      was.10,
      was.11,
    )

pub returns-clause-same : goal.returns-clause-same
returns-clause-same g c =
    let s = c.self.inside in
    let led = s.leader in
    let who = led.seated in
    let call = call_before who.number who.next in
    let v = who.seat.me.0 in
    let w = c.is_still_current.new.seat.me.0 in
    let t = c.is_still_current.new.seat.table_id in
    let p = at_members led.place call.generation led.own s.value s.joiners s.top in
    let same : sizes_of v ≡ c.group.inside.sizes = ap (λ (x : SettledValue _). x.group.sizes) c.self.view_is ∙ ap (λ (x : GroupValue). x.sizes) (c.requires.own ∙ sym c.group.view_is) in
    let goes = owing_stays c.group.inside.sizes who.number led.place call.generation led.own s.value s.joiners s.top v w same c.is_still_current.ensures.stays c.self.invariant.0 in
    subst (λ (x : SettledValue _). IsHeldStill x (settled_of t w who.number led.place call s.value s.joiners)) c.self.view_is
    (still_row who.seat.table_id t who.number led.place call s.value s.joiners v w p c.is_still_current.ensures.own.0 goes)

pub returns-clause-said : goal.returns-clause-said
returns-clause-said g c =
    let s = c.self.inside in
    let led = s.leader in
    let who = led.seated in
    let call = call_before who.number who.next in
    let v = who.seat.me.0 in
    let w = c.is_still_current.new.seat.me.0 in
    let p = at_members led.place call.generation led.own s.value s.joiners s.top in
    let same : sizes_of v ≡ c.group.inside.sizes = ap (λ (x : SettledValue _). x.group.sizes) c.self.view_is ∙ ap (λ (x : GroupValue). x.sizes) (c.requires.own ∙ sym c.group.view_is) in
    let goes = owing_stays c.group.inside.sizes who.number led.place call.generation led.own s.value s.joiners s.top v w same c.is_still_current.ensures.stays c.self.invariant.0 in
    subst (λ (x : SettledValue _). IsStillSaid c.args.place c.args.call c.is_still_current.result x.seen (history_of (sizes_of w) w.known.turns)) c.self.view_is
    (still_said c.group.inside.sizes who.number c.args.place c.args.call p c.is_still_current.result v w same goes.sits c.is_still_current.ensures.right c.is_still_current.ensures.outdated)
