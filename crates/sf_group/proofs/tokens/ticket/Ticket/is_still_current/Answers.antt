use Rattle.std.proofs.Common.{◌≡◌, ◌∙◌, [], sym, ap, subst}
use Rattle.sf_steps_laws.specs.declared.operation.Stage.TheVariants as stage
use Rattle.sf_group_rows.specs.Tokens.{GroupValue, TicketValue}
use Rattle.sf_group_rows.specs.Same.{IsStillTicket}
use Rattle.sf_group_rows.specs.Currents.{IsStillSaid}
use Rattle.sf_group_steps.specs.View.{sizes_of, history_of}
use Rattle.sf_group.specs.Known.{ticket_of}
use Rattle.sf_group.proofs.LedCalls.{placed_later}
use Rattle.sf_group.proofs.Deliveries.{sits_now, next_now}
use Rattle.sf_group.proofs.StillRows.{still_said, holding_stays, still_ticket}
use Rattle.sf_group.proofs.tokens.ticket.Ticket.is_still_current.Goals as goal

pub invariant_of-self : goal.invariant_of-self
invariant_of-self g c =
    let s = c.self.inside in
    let was = c.self.invariant in
    let v = s.seated.seat.me.0 in
    let w = c.is_still_current.new.seat.me.0 in
    let p = stage.Holding s.place s.member.generation s.call in
    let same : sizes_of v ≡ c.group.inside.sizes = ap (λ (x : TicketValue _). x.group.sizes) c.self.view_is ∙ ap (λ (x : GroupValue). x.sizes) (c.requires.own ∙ sym c.group.view_is) in
    let goes = holding_stays c.group.inside.sizes s.seated.number s.place s.member.generation s.call v w same c.is_still_current.ensures.stays was.0 in (
      sits_now s.seated.number 0 v w p [] goes,
      was.1,
      next_now s.seated.number s.seated.next v w p [] was.2 goes,
      c.is_still_current.ensures.own.1 ∙ was.3,
      placed_later s.seated.number 0 s.place v w p [] was.4 goes,
      was.5,
      was.6,
    )

pub returns-clause-same : goal.returns-clause-same
returns-clause-same g c =
    let s = c.self.inside in
    let v = s.seated.seat.me.0 in
    let w = c.is_still_current.new.seat.me.0 in
    let t = c.is_still_current.new.seat.table_id in
    let same : sizes_of v ≡ c.group.inside.sizes = ap (λ (x : TicketValue _). x.group.sizes) c.self.view_is ∙ ap (λ (x : GroupValue). x.sizes) (c.requires.own ∙ sym c.group.view_is) in
    let goes = holding_stays c.group.inside.sizes s.seated.number s.place s.member.generation s.call v w same c.is_still_current.ensures.stays c.self.invariant.0 in
    subst (λ (x : TicketValue _). IsStillTicket x (ticket_of t w s.seated.number s.place s.call s.member)) c.self.view_is
    (still_ticket s.seated.seat.table_id t s.seated.number s.place s.member.generation s.call s.member v w c.is_still_current.ensures.own.0 goes)

pub returns-clause-said : goal.returns-clause-said
returns-clause-said g c =
    let s = c.self.inside in
    let v = s.seated.seat.me.0 in
    let w = c.is_still_current.new.seat.me.0 in
    let same : sizes_of v ≡ c.group.inside.sizes = ap (λ (x : TicketValue _). x.group.sizes) c.self.view_is ∙ ap (λ (x : GroupValue). x.sizes) (c.requires.own ∙ sym c.group.view_is) in
    let goes = holding_stays c.group.inside.sizes s.seated.number s.place s.member.generation s.call v w same c.is_still_current.ensures.stays c.self.invariant.0 in
    subst (λ (x : TicketValue _). IsStillSaid c.args.place c.args.call c.is_still_current.result x.seen (history_of (sizes_of w) w.known.turns)) c.self.view_is
    (still_said c.group.inside.sizes s.seated.number c.args.place c.args.call (stage.Holding s.place s.member.generation s.call) c.is_still_current.result v w same goes.sits c.is_still_current.ensures.right c.is_still_current.ensures.outdated)
