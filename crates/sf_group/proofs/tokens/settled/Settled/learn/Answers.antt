use Rattle.std.proofs.Common.{◌≡◌, [], ap, sym, ◌∙◌, subst}
use Rattle.sf_history.specs.declared.event.Event.TheVariants as event
use Rattle.sf_steps_laws.specs.Turns.{at_members}
use Rattle.sf_group_rows.specs.declared.sizes.Sizes.{Sizes}
use Rattle.sf_group_rows.specs.Tokens.{GroupValue, SettledValue, NoteValue}
use Rattle.sf_group_rows.specs.Seen.{StartsWith}
use Rattle.sf_group_rows.specs.Finishes.{IsHeldStill}
use Rattle.sf_group_steps.specs.View.{sizes_of, history_of}
use Rattle.sf_group_steps.specs.Hears.{HasHeard}
use Rattle.sf_group.specs.Known.{call_before, settled_of}
use Rattle.sf_group.proofs.Finishes.{fits_later}
use Rattle.sf_group.proofs.LedCalls.{placed_later}
use Rattle.sf_group.proofs.Deliveries.{stands_later, still_row, sits_now, next_now}
use Rattle.sf_group.proofs.NoteRows.{heard_shown}
use Rattle.sf_group.proofs.OwingNotes.{owes_still}
use Rattle.sf_group.proofs.tokens.settled.Settled.learn.Goals as goal

pub invariant_of-self : goal.invariant_of-self
invariant_of-self g c =
    let s = c.self.inside in
    let led = s.leader in
    let who = led.seated in
    let call = call_before who.number who.next in
    let was = c.self.invariant in
    let v = who.seat.me.0 in
    let w = c.hear_note.new.seat.me.0 in
    let shown = c.note.inside.seat.me.0.known.turns in
    let p = at_members led.place call.generation led.own s.value s.joiners s.top in
    let same : sizes_of v ≡ c.group.inside.sizes = ap (λ (x : SettledValue _). x.group.sizes) c.self.view_is ∙ ap (λ (x : GroupValue). x.sizes) (c.requires.own ∙ sym c.group.view_is) in
    let heard = subst (λ (z : Sizes). HasHeard z v shown w) (sym same) c.hear_note.ensures.heard in
    let goes = owes_still who.number led.place call.generation led.own s.value s.joiners s.top shown v w was.0 heard in (
      sits_now who.number 0 v w p [] goes,
      next_now who.number who.next v w p [] was.1 goes,
      c.hear_note.ensures.own.1 ∙ was.2,
      was.3,
      fits_later g.V.Fit.fits g.V.Fit.lasts who.seat.table_id who.number 0 led.place call s.value v w p [] was.4 goes,
      stands_later who.seat.table_id who.number 0 (event.Settle call.caller call s.value s.joiners) v w p [] was.5 goes,
      placed_later who.number 0 led.place v w p [] was.6 goes,
      was.7,
      was.8,
      was.9,
      was.10,
      was.11,
    )

pub returns-clause-learnt : goal.returns-clause-learnt
returns-clause-learnt g c =
    let s = c.self.inside in
    let led = s.leader in
    let who = led.seated in
    let call = call_before who.number who.next in
    let was = c.self.invariant in
    let v = who.seat.me.0 in
    let n = c.note.inside.seat.me.0 in
    let w = c.hear_note.new.seat.me.0 in
    let t = c.hear_note.new.seat.table_id in
    let p = at_members led.place call.generation led.own s.value s.joiners s.top in
    let same : sizes_of v ≡ c.group.inside.sizes = ap (λ (x : SettledValue _). x.group.sizes) c.self.view_is ∙ ap (λ (x : GroupValue). x.sizes) (c.requires.own ∙ sym c.group.view_is) in
    let noted : sizes_of n ≡ c.group.inside.sizes = ap (λ (x : NoteValue _). x.group.sizes) c.note.view_is ∙ ap (λ (x : GroupValue). x.sizes) (c.requires.note ∙ sym c.group.view_is) in
    let heard = subst (λ (z : Sizes). HasHeard z v n.known.turns w) (sym same) c.hear_note.ensures.heard in
    let goes = owes_still who.number led.place call.generation led.own s.value s.joiners s.top n.known.turns v w was.0 heard in
    subst (λ (x : NoteValue _). IsHeldStill c.args.self.now (settled_of t w who.number led.place call s.value s.joiners) × StartsWith (history_of (sizes_of w) w.known.turns) x.seen) c.note.view_is (
      subst (λ (x : SettledValue _). IsHeldStill x (settled_of t w who.number led.place call s.value s.joiners)) c.self.view_is
          (still_row who.seat.table_id t who.number led.place call s.value s.joiners v w p c.hear_note.ensures.own.0 goes),
      heard_shown (sizes_of v) who.number v n w p (noted ∙ sym same) goes.sits heard,
    )
