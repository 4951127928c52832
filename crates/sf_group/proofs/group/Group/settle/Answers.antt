use Rattle.std.proofs.Common.{◌≡◌, ℕ, ◌∙◌, true, false, Option, None, inl, inr, refl, sym, ap, subst, arith, rules}
use Rattle.sf_history.specs.declared.call.CallId.{CallId}
use Rattle.std.specs.Prelude.{is_some}
use Rattle.atomic_table.specs.Table.{Me}
use Rattle.sf_steps_laws.specs.declared.letter.Letter.{Letter}
use Rattle.sf_group_steps.specs.declared.view.View.{View}
use Rattle.sf_steps_laws.specs.Schedules.{was_led_on}
use Rattle.sf_steps_laws.specs.Turns.{at_members}
use Rattle.sf_steps_laws.specs.Events.{settled}
use Rattle.sf_group_rows.specs.Tokens.{GroupValue, CallerValue, FlightValue, LetterValue}
use Rattle.sf_group_rows.specs.Finishes.{IsDone, IsHeld}
use Rattle.sf_group_steps.specs.View.{sizes_of, history_of}
use Rattle.sf_group_steps.specs.Stands.{Sits}
use Rattle.sf_group_steps.specs.Delivers.{IsOwed}
use Rattle.sf_group_steps.specs.Settles.{IsJoined}
use Rattle.sf_group.specs.Known.{call_before, caller_of, flight_of, settled_of, letter_of}
use Rattle.sf_group.specs.Calls.{ClosesSeldom}
use Rattle.sf_group.proofs.Finishes.{settled_so, held_row, done_row, closed_row, fits_later, none_is}
use Rattle.sf_group.proofs.LedCalls.{leading_led, led_later, placed_later}
use Rattle.sf_group.proofs.Deliveries.{held_stands, sits_now, next_now}
use Rattle.sf_group.proofs.group.Group.settle.Goals as goal
use Rattle.sf_group.proofs.group.Group.settle.Goals.{then-is_some-via-then-is_some, then-is_some-via-else-is_some+then-is_some-2}

pub invariant_of-result : goal.invariant_of-result
invariant_of-result g c =
    let led = c.flight.inside.leader in
    let who = led.seated in
    let call = call_before who.number who.next in
    let v = who.seat.me.0 in
    let w = c.settle_and_count-tally.new.seat.me.0 in
    let top = c.settle_and_count-tally.result.top in
    let n = c.settle_and_count-tally.result.joiners in
    let t = c.settle_and_count-tally.new.seat.table_id in
    let p = at_members led.place call.generation led.own c.args.value n top in
    let es = settled who.number (record { caller = who.number; generation = call.generation }) led.own c.args.value n top in
    let same : sizes_of v ≡ c.self.inside.sizes = ap (λ (x : FlightValue _). x.group.sizes) c.flight.view_is ∙ (ap (λ (x : GroupValue). x.sizes) c.requires.own ∙ ap (λ (x : GroupValue). x.sizes) (sym c.self.view_is)) in
    let goes = settled_so c.self.inside.sizes (sizes_of v) who.number led.place n call c.call-call.result led.own c.get-channel.result c.args.value top v w same c.call-call.ensures c.get-channel.ensures c.settle_and_count-tally.ensures.settled in
    let owed : IsOwed top led.own = subst (λ (o : Option CallId). IsOwed top o) c.get-channel.ensures (elim c.then-is_some.branch [
      | then-is_some-via-then-is_some w ↦ inl (sym c.is_some.ensures ∙ w.if-is_some.true)
      | then-is_some-via-else-is_some+then-is_some-2 w ↦ inr (sym w.is_some-else-is_some.ensures ∙ w.if-is_some-2.true)
    ]) in
    let flight = flight_of who.seat.table_id v who.number led.place call led.own in
    let held = held_row who.seat.table_id t who.number led.place call led.own c.args.value n top v w c.settle_and_count-tally.ensures.own.0 refl owed c.settle_and_count-tally.ensures.joined goes in
    let fit = fits_later g.V.Fit.fits g.V.Fit.lasts who.seat.table_id who.number 0 led.place call c.args.value v w p es (subst (λ (x : FlightValue _). g.V.Fit.fits x.place x.call c.args.value x.seen) (sym c.flight.view_is) c.requires.fits) goes in (
      subst (λ (q : Option ℕ). Sits (sizes_of w) who.number w (at_members led.place call.generation led.own c.args.value n q)) (sym c.of.ensures) (sits_now who.number 0 v w p es goes),
      next_now who.number who.next v w p es c.flight.invariant.1 goes,
      c.settle_and_count-tally.ensures.own.1 ∙ c.flight.invariant.2,
      subst (λ (q : Option ℕ). IsOwed q led.own) (sym c.of.ensures) owed,
      fit,
      held_stands flight c.args.value (settled_of t w who.number led.place call c.args.value n) refl held,
      placed_later who.number 0 led.place v w p es c.flight.invariant.3 goes,
      c.flight.invariant.5,
      c.flight.invariant.6,
      search rules,
      c.flight.invariant.7,
      c.flight.invariant.8,
    )

pub returns-then-is_some-clause-finished : goal.returns-then-is_some-clause-finished
returns-then-is_some-clause-finished g c =
    let led = c.flight.inside.leader in
    let who = led.seated in
    let call = call_before who.number who.next in
    let v = who.seat.me.0 in
    let w = c.settle_and_count-tally.new.seat.me.0 in
    let top = c.settle_and_count-tally.result.top in
    let n = c.settle_and_count-tally.result.joiners in
    let t = c.settle_and_count-tally.new.seat.table_id in
    let p = at_members led.place call.generation led.own c.args.value n top in
    let es = settled who.number (record { caller = who.number; generation = call.generation }) led.own c.args.value n top in
    let same : sizes_of v ≡ c.self.inside.sizes = ap (λ (x : FlightValue _). x.group.sizes) c.flight.view_is ∙ (ap (λ (x : GroupValue). x.sizes) c.requires.own ∙ ap (λ (x : GroupValue). x.sizes) (sym c.self.view_is)) in
    let goes = settled_so c.self.inside.sizes (sizes_of v) who.number led.place n call c.call-call.result led.own c.get-channel.result c.args.value top v w same c.call-call.ensures c.get-channel.ensures c.settle_and_count-tally.ensures.settled in
    let owed : IsOwed top led.own = subst (λ (o : Option CallId). IsOwed top o) c.get-channel.ensures (elim c.then-is_some.branch [
      | then-is_some-via-then-is_some w ↦ inl (sym c.is_some.ensures ∙ w.if-is_some.true)
      | then-is_some-via-else-is_some+then-is_some-2 w ↦ inr (sym w.is_some-else-is_some.ensures ∙ w.if-is_some-2.true)
    ]) in
    let flight = flight_of who.seat.table_id v who.number led.place call led.own in
    let held = held_row who.seat.table_id t who.number led.place call led.own c.args.value n top v w c.settle_and_count-tally.ensures.own.0 refl owed c.settle_and_count-tally.ensures.joined goes in
    subst (λ (x : FlightValue _). IsHeld x c.args.value (settled_of t w who.number led.place call c.args.value n)) c.flight.view_is held

pub returns-then-is_some-clause-closed : goal.returns-then-is_some-clause-closed
returns-then-is_some-clause-closed g c =
    let led = c.flight.inside.leader in
    let who = led.seated in
    let call = call_before who.number who.next in
    let v = who.seat.me.0 in
    let w = c.settle_and_count-tally.new.seat.me.0 in
    let top = c.settle_and_count-tally.result.top in
    let n = c.settle_and_count-tally.result.joiners in
    let t = c.settle_and_count-tally.new.seat.table_id in
    let p = at_members led.place call.generation led.own c.args.value n top in
    let es = settled who.number (record { caller = who.number; generation = call.generation }) led.own c.args.value n top in
    let same : sizes_of v ≡ c.self.inside.sizes = ap (λ (x : FlightValue _). x.group.sizes) c.flight.view_is ∙ (ap (λ (x : GroupValue). x.sizes) c.requires.own ∙ ap (λ (x : GroupValue). x.sizes) (sym c.self.view_is)) in
    let goes = settled_so c.self.inside.sizes (sizes_of v) who.number led.place n call c.call-call.result led.own c.get-channel.result c.args.value top v w same c.call-call.ensures c.get-channel.ensures c.settle_and_count-tally.ensures.settled in
    subst (λ (x : FlightValue _). ClosesSeldom x w.known.turns) c.flight.view_is (closed_row who.seat.table_id who.number led.place 0 call led.own v w p es goes)

pub letter-letter-requires-clause-led : goal.letter-letter-requires-clause-led
letter-letter-requires-clause-led g c =
    let led = c.flight.inside.leader in
    let who = led.seated in
    let call = call_before who.number who.next in
    let v = who.seat.me.0 in
    let w = c.settle_and_count-tally.new.seat.me.0 in
    let top = c.settle_and_count-tally.result.top in
    let n = c.settle_and_count-tally.result.joiners in
    let p = at_members led.place call.generation led.own c.args.value n top in
    let es = settled who.number (record { caller = who.number; generation = call.generation }) led.own c.args.value n top in
    let same : sizes_of v ≡ c.self.inside.sizes = ap (λ (x : FlightValue _). x.group.sizes) c.flight.view_is ∙ (ap (λ (x : GroupValue). x.sizes) c.requires.own ∙ ap (λ (x : GroupValue). x.sizes) (sym c.self.view_is)) in
    let goes = settled_so c.self.inside.sizes (sizes_of v) who.number led.place n call c.call-call.result led.own c.get-channel.result c.args.value top v w same c.call-call.ensures c.get-channel.ensures c.settle_and_count-tally.ensures.settled in
    subst (λ (d : CallId). was_led_on (history_of (sizes_of w) w.known.turns) led.place d ≡ true) (sym c.call-call.ensures) (led_later who.seat.table_id who.number 0 led.place call v w p es (leading_led (sizes_of v) who.number led.place call led.own v refl c.flight.invariant.0) goes)

pub letter-letter-requires-clause-fits : goal.letter-letter-requires-clause-fits
letter-letter-requires-clause-fits g c =
    let led = c.flight.inside.leader in
    let who = led.seated in
    let call = call_before who.number who.next in
    let v = who.seat.me.0 in
    let w = c.settle_and_count-tally.new.seat.me.0 in
    let top = c.settle_and_count-tally.result.top in
    let n = c.settle_and_count-tally.result.joiners in
    let same : sizes_of v ≡ c.self.inside.sizes = ap (λ (x : FlightValue _). x.group.sizes) c.flight.view_is ∙ (ap (λ (x : GroupValue). x.sizes) c.requires.own ∙ ap (λ (x : GroupValue). x.sizes) (sym c.self.view_is)) in
    let goes = settled_so c.self.inside.sizes (sizes_of v) who.number led.place n call c.call-call.result led.own c.get-channel.result c.args.value top v w same c.call-call.ensures c.get-channel.ensures c.settle_and_count-tally.ensures.settled in
    let fit = subst (λ (x : FlightValue _). g.V.Fit.fits x.place x.call c.args.value x.seen) (sym c.flight.view_is) c.requires.fits in
    subst (λ (d : CallId). g.V.Fit.fits led.place d c.args.value (history_of (sizes_of w) w.known.turns)) (sym c.call-call.ensures) (fits_later g.V.Fit.fits g.V.Fit.lasts who.seat.table_id who.number 0 led.place call c.args.value v w (at_members led.place call.generation led.own c.args.value n top) (settled who.number (record { caller = who.number; generation = call.generation }) led.own c.args.value n top) fit goes)

pub returns-clause-finished : goal.returns-clause-finished
returns-clause-finished g c =
    let led = c.flight.inside.leader in
    let who = led.seated in
    let call = call_before who.number who.next in
    let v = who.seat.me.0 in
    let w = c.settle_and_count-tally.new.seat.me.0 in
    let top = c.settle_and_count-tally.result.top in
    let n = c.settle_and_count-tally.result.joiners in
    let same : sizes_of v ≡ c.self.inside.sizes = ap (λ (x : FlightValue _). x.group.sizes) c.flight.view_is ∙ (ap (λ (x : GroupValue). x.sizes) c.requires.own ∙ ap (λ (x : GroupValue). x.sizes) (sym c.self.view_is)) in
    let goes = settled_so c.self.inside.sizes (sizes_of v) who.number led.place n call c.call-call.result led.own c.get-channel.result c.args.value top v w same c.call-call.ensures c.get-channel.ensures c.settle_and_count-tally.ensures.settled in
    let bare : is_some top ≡ false = sym c.is_some.ensures ∙ c.if-is_some.false in
    let alone : is_some led.own ≡ false = subst (λ (o : Option CallId). is_some o ≡ false) c.get-channel.ensures (sym c.is_some-else-is_some.ensures ∙ c.if-is_some-2.false) in
    let back : caller_of c.letter-letter.new.seat.table_id c.letter-letter.new.seat.me.0 who.number ≡ caller_of c.settle_and_count-tally.new.seat.table_id w who.number =
    ap (λ t. caller_of t c.letter-letter.new.seat.me.0 who.number) c.letter-letter.ensures.seat.0 ∙ ap (λ (m : Me (Option (Letter _)) (View _)). caller_of c.settle_and_count-tally.new.seat.table_id m.0 who.number) c.letter-letter.ensures.seat.1 in
    let letter : c.letter-letter.result ≡ letter_of c.settle_and_count-tally.new.seat.table_id w led.place call c.args.value n = c.letter-letter.ensures.letter ∙ ap (λ (d : CallId). letter_of c.settle_and_count-tally.new.seat.table_id w led.place d c.args.value n) c.call-call.ensures in
    let fit = fits_later g.V.Fit.fits g.V.Fit.lasts who.seat.table_id who.number 0 led.place call c.args.value v w (at_members led.place call.generation led.own c.args.value n top) (settled who.number (record { caller = who.number; generation = call.generation }) led.own c.args.value n top) (subst (λ (x : FlightValue _). g.V.Fit.fits x.place x.call c.args.value x.seen) (sym c.flight.view_is) c.requires.fits) goes in
    subst (λ (x : FlightValue _). IsDone g.V.Fit.fits x c.args.value (caller_of c.letter-letter.new.seat.table_id c.letter-letter.new.seat.me.0 who.number) c.letter-letter.result) c.flight.view_is
    (subst (λ (d : CallerValue _). IsDone g.V.Fit.fits (flight_of who.seat.table_id v who.number led.place call led.own) c.args.value d c.letter-letter.result) (sym back)
    (subst (λ (l : LetterValue _). IsDone g.V.Fit.fits (flight_of who.seat.table_id v who.number led.place call led.own) c.args.value (caller_of c.settle_and_count-tally.new.seat.table_id w who.number) l) (sym letter)
    (done_row g.V.Fit.fits who.seat.table_id c.settle_and_count-tally.new.seat.table_id who.number led.place call led.own c.args.value n top v w c.settle_and_count-tally.ensures.own.0 refl bare alone goes fit)))

pub returns-clause-closed : goal.returns-clause-closed
returns-clause-closed g c =
    let led = c.flight.inside.leader in
    let who = led.seated in
    let call = call_before who.number who.next in
    let v = who.seat.me.0 in
    let w = c.settle_and_count-tally.new.seat.me.0 in
    let top = c.settle_and_count-tally.result.top in
    let n = c.settle_and_count-tally.result.joiners in
    let same : sizes_of v ≡ c.self.inside.sizes = ap (λ (x : FlightValue _). x.group.sizes) c.flight.view_is ∙ (ap (λ (x : GroupValue). x.sizes) c.requires.own ∙ ap (λ (x : GroupValue). x.sizes) (sym c.self.view_is)) in
    let p = at_members led.place call.generation led.own c.args.value n top in
    let es = settled who.number (record { caller = who.number; generation = call.generation }) led.own c.args.value n top in
    let goes = settled_so c.self.inside.sizes (sizes_of v) who.number led.place n call c.call-call.result led.own c.get-channel.result c.args.value top v w same c.call-call.ensures c.get-channel.ensures c.settle_and_count-tally.ensures.settled in
    let turns_are = ap (λ (m : Me (Option (Letter _)) (View _)). m.0.known.turns) c.letter-letter.ensures.seat.1 in
    subst (λ ts. ClosesSeldom c.args.flight ts) (sym turns_are)
    (subst (λ (x : FlightValue _). ClosesSeldom x w.known.turns) c.flight.view_is (closed_row who.seat.table_id who.number led.place 0 call led.own v w p es goes))

pub returns-clause-owed : goal.returns-clause-owed
returns-clause-owed g c =
    let led = c.flight.inside.leader in
    let top = c.settle_and_count-tally.result.top in
    let n = c.settle_and_count-tally.result.joiners in
    let bare : is_some top ≡ false = sym c.is_some.ensures ∙ c.if-is_some.false in
    let alone : is_some led.own ≡ false = subst (λ (o : Option CallId). is_some o ≡ false) c.get-channel.ensures (sym c.is_some-else-is_some.ensures ∙ c.if-is_some-2.false) in
    let counted : IsJoined None n = subst (λ (m : Option ℕ). IsJoined m n) (none_is top bare) c.settle_and_count-tally.ensures.joined in
    let written = ap (λ (l : LetterValue _). l.joiners) c.letter-letter.ensures.letter in
    (omega (arith, counted, written), sym (ap (λ (x : FlightValue _). x.own) c.flight.view_is) ∙ none_is led.own alone)
