use Rattle.std.proofs.Common.{◌≡◌, ◌∙◌, [], sym, ap, subst}
use Rattle.sf_steps_laws.specs.declared.operation.Stage.TheVariants as stage
use Rattle.sf_group_rows.specs.Tokens.{GroupValue, FlightValue}
use Rattle.sf_group_rows.specs.Same.{IsSameFlight}
use Rattle.sf_group_rows.specs.Currents.{IsStillSaid}
use Rattle.sf_group_steps.specs.View.{sizes_of, history_of}
use Rattle.sf_group.specs.Known.{call_before, flight_of}
use Rattle.sf_group.proofs.NoteRows.{follows_still}
use Rattle.sf_group.proofs.LedCalls.{placed_later}
use Rattle.sf_group.proofs.Deliveries.{sits_now, next_now}
use Rattle.sf_group.proofs.StillRows.{still_said, leading_stays, same_flight}
use Rattle.sf_group.proofs.tokens.flight.Flight.is_still_current.Goals as goal

pub invariant_of-self : goal.invariant_of-self
invariant_of-self g c =
    let f = c.self.inside in
    let led = f.leader in
    let who = led.seated in
    let call = call_before who.number who.next in
    let was = c.self.invariant in
    let v = who.seat.me.0 in
    let w = c.is_still_current.new.seat.me.0 in
    let p = stage.Leading led.place call.generation led.own in
    let same : sizes_of v ≡ c.group.inside.sizes = ap (λ (x : FlightValue _). x.group.sizes) c.self.view_is ∙ ap (λ (x : GroupValue). x.sizes) (c.requires.own ∙ sym c.group.view_is) in
    let goes = leading_stays c.group.inside.sizes who.number led.place call.generation led.own v w same c.is_still_current.ensures.stays was.0 in (
      sits_now who.number 0 v w p [] goes,
      next_now who.number who.next v w p [] was.1 goes,
      c.is_still_current.ensures.own.1 ∙ was.2,
      placed_later who.number 0 led.place v w p [] was.3 goes,
      follows_still who.seat.table_id c.is_still_current.new.seat.table_id who.number led.place 0 call led.own f.after v w p [] goes was.4,
      was.5,
      was.6,
      was.7,
      was.8,
    )

pub returns-clause-same : goal.returns-clause-same
returns-clause-same g c =
    let led = c.self.inside.leader in
    let who = led.seated in
    let call = call_before who.number who.next in
    let v = who.seat.me.0 in
    let w = c.is_still_current.new.seat.me.0 in
    let t = c.is_still_current.new.seat.table_id in
    let same : sizes_of v ≡ c.group.inside.sizes = ap (λ (x : FlightValue _). x.group.sizes) c.self.view_is ∙ ap (λ (x : GroupValue). x.sizes) (c.requires.own ∙ sym c.group.view_is) in
    let goes = leading_stays c.group.inside.sizes who.number led.place call.generation led.own v w same c.is_still_current.ensures.stays c.self.invariant.0 in
    subst (λ (x : FlightValue _). IsSameFlight x (flight_of t w who.number led.place call led.own)) c.self.view_is
    (same_flight who.seat.table_id t who.number call.generation led.place call led.own v w c.is_still_current.ensures.own.0 goes)

pub returns-clause-said : goal.returns-clause-said
returns-clause-said g c =
    let led = c.self.inside.leader in
    let who = led.seated in
    let call = call_before who.number who.next in
    let v = who.seat.me.0 in
    let w = c.is_still_current.new.seat.me.0 in
    let same : sizes_of v ≡ c.group.inside.sizes = ap (λ (x : FlightValue _). x.group.sizes) c.self.view_is ∙ ap (λ (x : GroupValue). x.sizes) (c.requires.own ∙ sym c.group.view_is) in
    let goes = leading_stays c.group.inside.sizes who.number led.place call.generation led.own v w same c.is_still_current.ensures.stays c.self.invariant.0 in
    subst (λ (x : FlightValue _). IsStillSaid c.args.place c.args.call c.is_still_current.result x.seen (history_of (sizes_of w) w.known.turns)) c.self.view_is
    (still_said c.group.inside.sizes who.number c.args.place c.args.call (stage.Leading led.place call.generation led.own) c.is_still_current.result v w same goes.sits c.is_still_current.ensures.right c.is_still_current.ensures.outdated)
