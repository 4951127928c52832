use Rattle.std.proofs.Common.{◌≡◌, ℕ, ◌∙◌, true, [], Option, refl, sym, ap, subst}
use Rattle.atomic_table.specs.Table.{Me}
use Rattle.sf_steps_laws.specs.declared.letter.Letter.{Letter}
use Rattle.sf_steps_laws.specs.declared.operation.Stage.TheVariants.{Free}
use Rattle.sf_history.specs.declared.call.CallId.{CallId}
use Rattle.sf_history.specs.declared.event.Event.TheVariants as event
use Rattle.sf_group_rows.specs.Seen.{Stands}
use Rattle.sf_group_steps.specs.declared.view.View.{View}
use Rattle.sf_steps_laws.specs.Schedules.{was_led_on}
use Rattle.sf_steps_laws.specs.Turns.{at_members}
use Rattle.sf_group_rows.specs.Tokens.{GroupValue, CallerValue, SettledValue, LetterValue}
use Rattle.sf_group_rows.specs.Finishes.{IsDoneAtLast, IsHeldStill}
use Rattle.sf_group_steps.specs.View.{sizes_of, history_of}
use Rattle.sf_group_steps.specs.Stands.{Sits}
use Rattle.sf_group_steps.specs.Settles.{call_of}
use Rattle.sf_group_steps.specs.Delivers.{IsOwed, handed_later}
use Rattle.sf_group.specs.Known.{call_before, caller_of, settled_of, letter_of}
use Rattle.sf_group.proofs.Finishes.{fits_later}
use Rattle.sf_group.proofs.LedCalls.{owing_led, led_later, placed_later}
use Rattle.sf_group.proofs.Deliveries.{owing_so, handed_so, stands_later, last_row, still_row, sits_now, next_now}
use Rattle.sf_group.proofs.group.Group.hand_on.Goals as goal

pub invariant_of-result : goal.invariant_of-result
invariant_of-result g c =
    let s = c.settled.inside in
    let led = s.leader in
    let who = led.seated in
    let call = call_before who.number who.next in
    let was = c.settled.invariant in
    let v = who.seat.me.0 in
    let w = c.hand_out.new.seat.me.0 in
    let left = c.in-Err.left in
    let p = at_members led.place call.generation led.own s.value s.joiners left in
    let same : sizes_of v ≡ c.self.inside.sizes = ap (λ (x : SettledValue _). x.group.sizes) c.settled.view_is ∙ (ap (λ (x : GroupValue). x.sizes) c.requires.own ∙ ap (λ (x : GroupValue). x.sizes) (sym c.self.view_is)) in
    let goes = owing_so c.self.inside.sizes (sizes_of v) who.number led.place s.joiners call c.call-call.result led.own c.get-channel.result s.value c.in-Err.left v w same c.call-call.ensures c.get-channel.ensures c.in-Err.ensures.refused in
    let value = c.hand_out.ensures.value in (
      subst (λ (q : Option ℕ). Sits (sizes_of w) who.number w (at_members led.place call.generation led.own c.hand_out.new.value s.joiners q)) (sym c.of.ensures)
          (subst (λ x. Sits (sizes_of w) who.number w (at_members led.place call.generation led.own x s.joiners left)) (sym value) (sits_now who.number 0 v w p [] goes)),
      next_now who.number who.next v w p [] was.1 goes,
      c.hand_out.ensures.own.1,
      subst (λ (q : Option ℕ). IsOwed q led.own) (sym c.of.ensures) (subst (λ (o : Option CallId). IsOwed left o) c.get-channel.ensures c.in-Err.ensures.owed),
      subst (λ x. g.V.Fit.fits led.place call x (history_of (sizes_of w) w.known.turns)) (sym value) (fits_later g.V.Fit.fits g.V.Fit.lasts who.seat.table_id who.number 0 led.place call s.value v w p [] was.4 goes),
      subst (λ x. Stands (event.Settle call.caller call x s.joiners) (history_of (sizes_of w) w.known.turns)) (sym value) (stands_later who.seat.table_id who.number 0 (event.Settle call.caller call s.value s.joiners) v w p [] was.5 goes),
      placed_later who.number 0 led.place v w p [] was.6 goes,
      was.7,
      was.8,
      was.9,
      was.10,
      was.11,
    )

pub returns-in-Err-clause-gone : goal.returns-in-Err-clause-gone
returns-in-Err-clause-gone g c =
    let s = c.settled.inside in
    let led = s.leader in
    let who = led.seated in
    let call = call_before who.number who.next in
    let v = who.seat.me.0 in
    let w = c.hand_out.new.seat.me.0 in
    let t = c.hand_out.new.seat.table_id in
    let p = at_members led.place call.generation led.own s.value s.joiners c.in-Err.left in
    let same : sizes_of v ≡ c.self.inside.sizes = ap (λ (x : SettledValue _). x.group.sizes) c.settled.view_is ∙ (ap (λ (x : GroupValue). x.sizes) c.requires.own ∙ ap (λ (x : GroupValue). x.sizes) (sym c.self.view_is)) in
    let goes = owing_so c.self.inside.sizes (sizes_of v) who.number led.place s.joiners call c.call-call.result led.own c.get-channel.result s.value c.in-Err.left v w same c.call-call.ensures c.get-channel.ensures c.in-Err.ensures.refused in
    subst (λ x. IsHeldStill c.args.settled (settled_of t w who.number led.place call x s.joiners)) (sym c.hand_out.ensures.value)
    (subst (λ (q : SettledValue _). IsHeldStill q (settled_of t w who.number led.place call s.value s.joiners)) c.settled.view_is
    (still_row who.seat.table_id t who.number led.place call s.value s.joiners v w p c.hand_out.ensures.own.0 goes))

pub letter-letter-requires-clause-led : goal.letter-letter-requires-clause-led
letter-letter-requires-clause-led g c =
    let s = c.settled.inside in
    let led = s.leader in
    let who = led.seated in
    let call = call_before who.number who.next in
    let was = c.settled.invariant in
    let v = who.seat.me.0 in
    let w = c.hand_out.new.seat.me.0 in
    let es = handed_later who.number (call_of who.number call.generation) led.own s.top in
    let same : sizes_of v ≡ c.self.inside.sizes = ap (λ (x : SettledValue _). x.group.sizes) c.settled.view_is ∙ (ap (λ (x : GroupValue). x.sizes) c.requires.own ∙ ap (λ (x : GroupValue). x.sizes) (sym c.self.view_is)) in
    let goes = handed_so c.self.inside.sizes (sizes_of v) who.number call c.call-call.result led.own c.get-channel.result s.top c.get-list.result v w same c.call-call.ensures c.get-channel.ensures c.get-list.ensures c.in-Ok.ensures.handed in
    subst (λ (d : CallId). was_led_on (history_of (sizes_of w) w.known.turns) led.place d ≡ true) (sym c.call-call.ensures) (led_later who.seat.table_id who.number 0 led.place call v w Free es (owing_led (sizes_of v) who.number led.place call led.own s.value s.joiners s.top v refl was.3 was.0) goes)

pub letter-letter-requires-clause-fits : goal.letter-letter-requires-clause-fits
letter-letter-requires-clause-fits g c =
    let s = c.settled.inside in
    let led = s.leader in
    let who = led.seated in
    let call = call_before who.number who.next in
    let v = who.seat.me.0 in
    let w = c.hand_out.new.seat.me.0 in
    let es = handed_later who.number (call_of who.number call.generation) led.own s.top in
    let same : sizes_of v ≡ c.self.inside.sizes = ap (λ (x : SettledValue _). x.group.sizes) c.settled.view_is ∙ (ap (λ (x : GroupValue). x.sizes) c.requires.own ∙ ap (λ (x : GroupValue). x.sizes) (sym c.self.view_is)) in
    let goes = handed_so c.self.inside.sizes (sizes_of v) who.number call c.call-call.result led.own c.get-channel.result s.top c.get-list.result v w same c.call-call.ensures c.get-channel.ensures c.get-list.ensures c.in-Ok.ensures.handed in
    subst (λ (d : CallId). g.V.Fit.fits led.place d c.hand_out.new.value (history_of (sizes_of w) w.known.turns)) (sym c.call-call.ensures)
    (subst (λ x. g.V.Fit.fits led.place call x (history_of (sizes_of w) w.known.turns)) (sym c.hand_out.ensures.value) (fits_later g.V.Fit.fits g.V.Fit.lasts who.seat.table_id who.number 0 led.place call s.value v w Free es c.settled.invariant.4 goes))

pub returns-clause-gone : goal.returns-clause-gone
returns-clause-gone g c =
    let s = c.settled.inside in
    let led = s.leader in
    let who = led.seated in
    let call = call_before who.number who.next in
    let was = c.settled.invariant in
    let v = who.seat.me.0 in
    let w = c.hand_out.new.seat.me.0 in
    let t = c.hand_out.new.seat.table_id in
    let es = handed_later who.number (call_of who.number call.generation) led.own s.top in
    let same : sizes_of v ≡ c.self.inside.sizes = ap (λ (x : SettledValue _). x.group.sizes) c.settled.view_is ∙ (ap (λ (x : GroupValue). x.sizes) c.requires.own ∙ ap (λ (x : GroupValue). x.sizes) (sym c.self.view_is)) in
    let goes = handed_so c.self.inside.sizes (sizes_of v) who.number call c.call-call.result led.own c.get-channel.result s.top c.get-list.result v w same c.call-call.ensures c.get-channel.ensures c.get-list.ensures c.in-Ok.ensures.handed in
    let fit = fits_later g.V.Fit.fits g.V.Fit.lasts who.seat.table_id who.number 0 led.place call s.value v w Free es was.4 goes in
    let row = last_row g.V.Fit.fits who.seat.table_id t who.number led.place call led.own s.value s.joiners s.top v w c.hand_out.ensures.own.0 refl was.3 goes was.5 fit in
    let back : caller_of c.letter-letter.new.seat.table_id c.letter-letter.new.seat.me.0 who.number ≡ caller_of t w who.number =
    ap (λ q. caller_of q c.letter-letter.new.seat.me.0 who.number) c.letter-letter.ensures.seat.0 ∙ ap (λ (m : Me (Option (Letter _)) (View _)). caller_of t m.0 who.number) c.letter-letter.ensures.seat.1 in
    let letter : c.letter-letter.result ≡ letter_of t w led.place call s.value s.joiners = c.letter-letter.ensures.letter ∙ (ap (λ x. letter_of t w led.place c.call-call.result x s.joiners) c.hand_out.ensures.value ∙ ap (λ (d : CallId). letter_of t w led.place d s.value s.joiners) c.call-call.ensures) in
    subst (λ (x : SettledValue _). IsDoneAtLast g.V.Fit.fits x (caller_of c.letter-letter.new.seat.table_id c.letter-letter.new.seat.me.0 who.number) c.letter-letter.result) c.settled.view_is
    (subst (λ (d : CallerValue _). IsDoneAtLast g.V.Fit.fits (settled_of who.seat.table_id v who.number led.place call s.value s.joiners) d c.letter-letter.result) (sym back)
    (subst (λ (l : LetterValue _). IsDoneAtLast g.V.Fit.fits (settled_of who.seat.table_id v who.number led.place call s.value s.joiners) (caller_of t w who.number) l) (sym letter) row))
