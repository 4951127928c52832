use Rattle.std.proofs.Common.{◌≡◌, [], ap, sym, ◌∙◌, subst}
use Rattle.sf_group_rows.specs.declared.sizes.Sizes.{Sizes}
use Rattle.sf_group_rows.specs.Tokens.{GroupValue, FlightValue, NoteValue}
use Rattle.sf_group_rows.specs.Notes.{HasLearntLeading}
use Rattle.sf_group_steps.specs.View.{sizes_of, history_of}
use Rattle.sf_group_steps.specs.Hears.{HasHeard}
use Rattle.sf_group.specs.Known.{call_before, flight_of}
use Rattle.sf_group.proofs.NoteRows.{leading_alone, leads_still, learnt_leading_row, follows_still}
use Rattle.sf_group_steps.proofs.HearSteps.{heard_goes}
use Rattle.sf_steps_laws.specs.declared.operation.Stage.TheVariants as stage
use Rattle.sf_group.proofs.tokens.flight.Flight.learn.Goals as goal

pub invariant_of-self : goal.invariant_of-self
invariant_of-self g c =
    let f = c.self.inside in
    let led = f.leader in
    let who = led.seated in
    let call = call_before who.number who.next in
    let v = who.seat.me.0 in
    let w = c.hear_note.new.seat.me.0 in
    let was = c.self.invariant in
    let same : sizes_of v ≡ c.group.inside.sizes = ap (λ (x : FlightValue _). x.group.sizes) c.self.view_is ∙ ap (λ (x : GroupValue). x.sizes) (c.requires.own ∙ sym c.group.view_is) in
    let heard = subst (λ (z : Sizes). HasHeard z v c.note.inside.seat.me.0.known.turns w) (sym same) c.hear_note.ensures.heard in
    let leads = leads_still who.number call.generation led.place who.next led.own v w was.1 was.0 heard.made was.3 in
    (leads.0, leads.1, c.hear_note.ensures.own.1 ∙ was.2, leads.2, follows_still who.seat.table_id c.hear_note.new.seat.table_id who.number led.place 0 call led.own f.after v w (stage.Leading led.place call.generation led.own) [] (heard_goes (sizes_of v) who.number v w (stage.Leading led.place call.generation led.own) was.0 (leading_alone led.place call.generation led.own) heard.made) was.4, was.5, was.6, was.7, was.8)

pub returns-clause-learnt : goal.returns-clause-learnt
returns-clause-learnt g c =
    let led = c.self.inside.leader in
    let who = led.seated in
    let call = call_before who.number who.next in
    let n = c.note.inside.seat.me.0 in
    let w = c.hear_note.new.seat.me.0 in
    let same : sizes_of who.seat.me.0 ≡ c.group.inside.sizes = ap (λ (x : FlightValue _). x.group.sizes) c.self.view_is ∙ ap (λ (x : GroupValue). x.sizes) (c.requires.own ∙ sym c.group.view_is) in
    let noted : sizes_of n ≡ c.group.inside.sizes = ap (λ (x : NoteValue _). x.group.sizes) c.note.view_is ∙ ap (λ (x : GroupValue). x.sizes) (c.requires.note ∙ sym c.group.view_is) in
    let heard = subst (λ (z : Sizes). HasHeard z who.seat.me.0 n.known.turns w) (sym same) c.hear_note.ensures.heard in
    subst (λ (x : NoteValue _). HasLearntLeading c.args.self.now x.seen (flight_of c.hear_note.new.seat.table_id w who.number led.place call led.own)) c.note.view_is
    (subst (λ (x : FlightValue _). HasLearntLeading x (history_of (sizes_of n) n.known.turns) (flight_of c.hear_note.new.seat.table_id w who.number led.place call led.own)) c.self.view_is
    (learnt_leading_row who.seat.table_id c.hear_note.new.seat.table_id who.number call.generation led.place call led.own who.seat.me.0 n w c.hear_note.ensures.own.0 (noted ∙ sym same) c.self.invariant.0 heard))
