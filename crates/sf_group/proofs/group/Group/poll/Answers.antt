use Rattle.std.proofs.Common.{◌≡◌, ◌∙◌, false, [], Option, sym, ap, subst}
use Rattle.atomic_table.specs.Table.{Me}
use Rattle.sf_steps_laws.specs.declared.letter.Letter.{Letter}
use Rattle.sf_steps_laws.specs.declared.operation.Stage.TheVariants.{Free, Holding}
use Rattle.sf_history.specs.History.{is_handed}
use Rattle.sf_group_steps.specs.declared.view.View.{View}
use Rattle.sf_group_rows.specs.declared.sizes.Sizes.{Sizes}
use Rattle.sf_group_rows.specs.Tokens.{GroupValue, CallerValue, TicketValue, LetterValue}
use Rattle.sf_group_rows.specs.Finishes.{IsReady, IsPending}
use Rattle.sf_group_steps.specs.View.{sizes_of, history_of}
use Rattle.sf_group_steps.specs.Stands.{Goes}
use Rattle.sf_group_steps.specs.Collects.{IsAnswer}
use Rattle.sf_group.specs.Known.{caller_of, ticket_of}
use Rattle.sf_group.proofs.LedCalls.{holding_led, led_later}
use Rattle.sf_group.proofs.Deliveries.{ready_row, pending_row}
use Rattle.sf_group.proofs.group.Group.poll.Goals as goal

pub returns-in_default : goal.returns-in_default
returns-in_default g c =
    let s = c.ticket.inside in
    let v = s.seated.seat.me.0 in
    let w = c.collect.new.seat.me.0 in
    let t = c.collect.new.seat.table_id in
    let same : sizes_of v ≡ c.self.inside.sizes = ap (λ (x : TicketValue _). x.group.sizes) c.ticket.view_is ∙ (ap (λ (x : GroupValue). x.sizes) c.requires.own ∙ ap (λ (x : GroupValue). x.sizes) (sym c.self.view_is)) in
    let goes = subst (λ (z : Sizes). Goes z s.seated.number v w (Holding s.place s.member.generation s.call) [] 0) (sym same) c.in_default.ensures.pending in
    let none = subst (λ (z : Sizes). is_handed (history_of z w.known.turns) s.call ≡ false) (sym same) c.in_default.ensures.unhanded in
    subst (λ (q : TicketValue _). IsPending q (ticket_of t w s.seated.number s.place s.call s.member)) c.ticket.view_is
    (pending_row s.seated.seat.table_id t s.seated.number s.place s.member.generation s.call s.member v w c.collect.ensures.own.0 goes none)

pub letter-letter-requires-clause-led : goal.letter-letter-requires-clause-led
letter-letter-requires-clause-led g c =
    let s = c.ticket.inside in
    let v = s.seated.seat.me.0 in
    let w = c.collect.new.seat.me.0 in
    let same : sizes_of v ≡ c.self.inside.sizes = ap (λ (x : TicketValue _). x.group.sizes) c.ticket.view_is ∙ (ap (λ (x : GroupValue). x.sizes) c.requires.own ∙ ap (λ (x : GroupValue). x.sizes) (sym c.self.view_is)) in
    let goes = subst (λ (z : Sizes). Goes z s.seated.number v w Free [] 0) (sym same) c.in-Some.ensures.ready in
    led_later s.seated.seat.table_id s.seated.number 0 s.place s.call v w Free [] (holding_led (sizes_of v) s.seated.number s.place s.member.generation s.call v c.ticket.invariant.0) goes

pub returns : goal.returns
returns g c =
    let s = c.ticket.inside in
    let v = s.seated.seat.me.0 in
    let w = c.collect.new.seat.me.0 in
    let t = c.collect.new.seat.table_id in
    let cell = c.in-Some.cell in
    let same : sizes_of v ≡ c.self.inside.sizes = ap (λ (x : TicketValue _). x.group.sizes) c.ticket.view_is ∙ (ap (λ (x : GroupValue). x.sizes) c.requires.own ∙ ap (λ (x : GroupValue). x.sizes) (sym c.self.view_is)) in
    let goes = subst (λ (z : Sizes). Goes z s.seated.number v w Free [] 0) (sym same) c.in-Some.ensures.ready in
    let answer = subst (λ (z : Sizes). IsAnswer g.V.Fit.fits s.place s.call (history_of z w.known.turns) cell) (sym same) c.in-Some.ensures.answer in
    let row = ready_row g.V.Fit.fits s.seated.seat.table_id t s.seated.number s.place s.call s.member cell v w c.collect.ensures.own.0 goes answer in
    let back : caller_of c.letter-letter.new.seat.table_id c.letter-letter.new.seat.me.0 s.seated.number ≡ caller_of t w s.seated.number =
    ap (λ q. caller_of q c.letter-letter.new.seat.me.0 s.seated.number) c.letter-letter.ensures.seat.0 ∙ ap (λ (m : Me (Option (Letter _)) (View _)). caller_of t m.0 s.seated.number) c.letter-letter.ensures.seat.1 in
    subst (λ (x : TicketValue _). IsReady g.V.Fit.fits x (caller_of c.letter-letter.new.seat.table_id c.letter-letter.new.seat.me.0 s.seated.number) c.letter-letter.result) c.ticket.view_is
    (subst (λ (d : CallerValue _). IsReady g.V.Fit.fits (ticket_of s.seated.seat.table_id v s.seated.number s.place s.call s.member) d c.letter-letter.result) (sym back)
    (subst (λ (l : LetterValue _). IsReady g.V.Fit.fits (ticket_of s.seated.seat.table_id v s.seated.number s.place s.call s.member) (caller_of t w s.seated.number) l) (sym c.letter-letter.ensures.letter) row))
