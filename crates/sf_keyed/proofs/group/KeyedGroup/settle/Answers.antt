use Rattle.std.proofs.Common.{◌≡◌, ℕ, ◌+◌, ◌%◌, ◌<◌, ◌++◌, ◌∷◌, [], Some, None, false, refl, sym, ◌∙◌, ap, subst}
use Rattle.std.proofs.lemmas.Bool.{true≢false}
use Rattle.std.specs.Prelude.{nat_eq}
use Rattle.sf_history.specs.Legal.{IsLegal}
use Rattle.sf_history.specs.declared.event.Event.TheVariants.{Settle}
use Rattle.sf_keyed_tells.specs.Tells.{call_of}
use Rattle.sf_keyed_words.specs.declared.rule.KeyedSizes.{KeyedSizes}
use Rattle.sf_keyed_words.specs.declared.rule.View.{View}
use Rattle.sf_keyed_words.specs.Plays.{GoneHasNoCall, WasForgotten}
use Rattle.sf_keyed_words.specs.Rule.{is_forgotten}
use Rattle.sf_keyed.specs.Known.{GroupId, FrontState, FlightState}
use Rattle.sf_keyed.proofs.Joint.{gone_on, joint, still_gone, two_parts}
use Rattle.sf_keyed.proofs.group.KeyedGroup.settle.Goals as goal

pub invariant_of-ticket : goal.invariant_of-ticket
invariant_of-ticket c =
    let sh = c.settle_call.ensures.shared c.in-Some.state c.in-Some.is in
    let new = c.split_ticket-seat.ensures.new in
    let heard = c.join_flight.ensures.heard in
    let same = ap (λ (g : GroupId). g.sizes) (ap (λ (f : FrontState). f.group) c.me.view_is ∙ (c.requires.own.0 ∙ (sym c.requires.own.1 ∙ sym (ap (λ (f : FlightState). f.group) c.flight.view_is)))) in
    let sizes = ap (λ q. q.0.sizes) new ∙ (sh.3.sizes ∙ (ap (λ (v : View). v.sizes) heard.view ∙ same)) in (
      ap (λ q. q.0.ticket) new ∙ sh.0,
      c.flight.invariant.1,
      c.flight.invariant.2,
      subst (λ (z : KeyedSizes). c.flight.inside.call % 1048576 < z.cells) (sym sizes) c.flight.invariant.3,
      ap (λ q. q.0.own) new,
      ap (λ q. q.0.leads) new,
      ap (λ q. q.1) new,
    )

pub invariant_of-me-in-Some : goal.invariant_of-me-in-Some
invariant_of-me-in-Some c =
    let sh = c.settle_call.ensures.shared c.in-Some.state c.in-Some.is in
    let left = c.split_ticket-seat.ensures.seat in
    let heard = c.join_flight.ensures.heard in
    let sizes = ap (λ (v : View). v.sizes) left ∙ (sh.3.sizes ∙ ap (λ (v : View). v.sizes) heard.view) in (
      ap (λ (v : View). v.own) left ∙ sh.1,
      ap (λ (v : View). v.leads) left ∙ sh.3.leads,
      ap (λ (v : View). v.ticket) left,
      c.me.invariant.3,
      λ some. subst (λ (z : KeyedSizes). c.me.inside.spare % 1048576 < z.cells) (sym sizes) (c.me.invariant.4 some),
    )

pub returns-in-None : goal.returns-in-None
returns-in-None c =
    let al = c.settle_call.ensures.alone c.in-None.is in
    let heard = c.join_flight.ensures.heard in
    let own = ap (λ (f : FrontState). f.group) c.me.view_is in
    let seen = ap (λ (f : FrontState). f.seen) c.me.view_is in
    let num = ap (λ (f : FrontState). f.number) c.me.view_is in
    let gone = ap (λ (f : FrontState). f.gone) c.me.view_is in
    let call = ap (λ (f : FlightState). f.call) c.flight.view_is in
    let x = λ (e : ℕ). Settle (e % 1048576) (call_of e) None al.2.joiners ∷ [] in
    let first = heard.seen.1 ∙ ap (λ l. l ++ heard.seen.0) seen in (
      record {
        joiners = al.2.joiners;
        none = λ _. al.2.none refl;
        some = λ yes. absurd (true≢false (sym yes));
        adds = record {
          group = (λ i. record { table = (c.settle_call.ensures.own ∙ c.join_flight.ensures.own) i; sizes = (al.2.sizes ∙ ap (λ (v : View). v.sizes) heard.view) i }) ∙ own;
          number = (al.2.number ∙ ap (λ (v : View). v.number) heard.view) ∙ num;
          others = heard.seen.0 ++ al.2.adds.before;
          seen = subst (λ (e : ℕ). c.settle_call.new.seat.me.0.seen ≡ (c.args.me.now.seen ++ (heard.seen.0 ++ al.2.adds.before)) ++ Settle (e % 1048576) (call_of e) None al.2.joiners ∷ []) call
              (joint c.args.me.now.seen heard.seen.0 al.2.adds.before (x c.flight.inside.call) c.join_flight.new.seat.me.0.seen c.settle_call.new.seat.me.0.seen first al.2.adds.seen);
          legal = al.2.adds.legal;
          gone = still_gone _ _ (gone_on _ _ _ _ ((al.2.sizes ∙ ap (λ (v : View). v.sizes) heard.view) ∙ ap (λ (g : GroupId). g.sizes) own) ((al.2.gone ∙ ap (λ (v : View). v.gone) heard.view) ∙ gone)) al.2.adds.gone al.2.adds.legal;
        };
        was = subst (λ l. WasForgotten l c.args.flight.call false) (two_parts c.args.me.now.seen heard.seen.0 al.2.adds.before c.join_flight.new.seat.me.0.seen (c.join_flight.new.seat.me.0.seen ++ al.2.adds.before) first refl)
            (subst (λ e. WasForgotten (c.join_flight.new.seat.me.0.seen ++ al.2.adds.before) e false) call al.2.was);
      },
      sym (ap (λ (f : FrontState). f.spare) c.me.view_is) ∙ (c.settle_call.ensures.ready c.in-None.is).0,
      ap (λ (e : ℕ). e + 1048576) call,
    )

pub returns-in-Some : goal.returns-in-Some
returns-in-Some c =
    let sh = c.settle_call.ensures.shared c.in-Some.state c.in-Some.is in
    let left = c.split_ticket-seat.ensures.seat in
    let new = c.split_ticket-seat.ensures.new in
    let heard = c.join_flight.ensures.heard in
    let own = ap (λ (f : FrontState). f.group) c.me.view_is in
    let theirs = ap (λ (f : FlightState). f.group) c.flight.view_is in
    let seen = ap (λ (f : FrontState). f.seen) c.me.view_is in
    let num = ap (λ (f : FrontState). f.number) c.me.view_is in
    let gone = ap (λ (f : FrontState). f.gone) c.me.view_is in
    let call = ap (λ (f : FlightState). f.call) c.flight.view_is in
    let sizes1 = ap (λ (v : View). v.sizes) heard.view in
    let to_flight = own ∙ (c.requires.own.0 ∙ sym c.requires.own.1) in
    let first = heard.seen.1 ∙ ap (λ l. l ++ heard.seen.0) seen in
    let told = c.told_by.ensures in (
      record {
        joiners = sh.3.joiners;
        none = λ no_bit. sh.3.none (told.joined.1 no_bit);
        some = λ bit. sh.3.some (told.joined.0 bit);
        adds = record {
          group = (λ i. record { table = (c.split_ticket-seat.ensures.own.0 ∙ (c.settle_call.ensures.own ∙ c.join_flight.ensures.own)) i; sizes = (ap (λ (v : View). v.sizes) left ∙ (sh.3.sizes ∙ sizes1)) i }) ∙ own;
          number = (ap (λ (v : View). v.number) left ∙ (sh.3.number ∙ ap (λ (v : View). v.number) heard.view)) ∙ num;
          others = heard.seen.0 ++ sh.3.adds.before;
          seen = ap (λ (v : View). v.seen) left ∙ subst (λ (e : ℕ). c.settle_call.new.seat.me.0.seen ≡ (c.args.me.now.seen ++ (heard.seen.0 ++ sh.3.adds.before)) ++ Settle (e % 1048576) (call_of e) (Some c.args.value) sh.3.joiners ∷ []) call
              (joint c.args.me.now.seen heard.seen.0 sh.3.adds.before (Settle (c.flight.inside.call % 1048576) (call_of c.flight.inside.call) (Some c.args.value) sh.3.joiners ∷ []) c.join_flight.new.seat.me.0.seen c.settle_call.new.seat.me.0.seen first sh.3.adds.seen);
          legal = subst (IsLegal nat_eq) (sym (ap (λ (v : View). v.seen) left)) sh.3.adds.legal;
          gone = still_gone _ _ (gone_on _ _ _ _ ((ap (λ (v : View). v.sizes) left ∙ (sh.3.sizes ∙ sizes1)) ∙ ap (λ (g : GroupId). g.sizes) own) ((ap (λ (v : View). v.gone) left ∙ (sh.3.gone ∙ ap (λ (v : View). v.gone) heard.view)) ∙ gone)) (subst GoneHasNoCall (sym left) sh.3.adds.gone) (subst (IsLegal nat_eq) (sym (ap (λ (v : View). v.seen) left)) sh.3.adds.legal);
        };
        was = subst (WasForgotten (c.args.me.now.seen ++ (heard.seen.0 ++ sh.3.adds.before)) c.args.flight.call) (sym told.forgotten)
            (subst (λ l. WasForgotten l c.args.flight.call (is_forgotten c.in-Some.state)) (two_parts c.args.me.now.seen heard.seen.0 sh.3.adds.before c.join_flight.new.seat.me.0.seen (c.join_flight.new.seat.me.0.seen ++ sh.3.adds.before) first refl)
            (subst (λ e. WasForgotten (c.join_flight.new.seat.me.0.seen ++ sh.3.adds.before) e (is_forgotten c.in-Some.state)) call sh.3.was));
      },
      told.holders ∙ ap (λ n. n % 1048576) (sym (ap (λ (v : View). v.state) left ∙ sh.2)),
      (λ i. record {
        group = ((λ j. record { table = (c.split_ticket-seat.ensures.own.1 ∙ (ap (λ (g : GroupId). g.table) c.self.view_is ∙ (ap (λ (g : GroupId). g.table) (sym c.requires.own.0) ∙ sym (ap (λ (g : GroupId). g.table) own)))) j; sizes = (ap (λ q. q.0.sizes) new ∙ (sh.3.sizes ∙ sizes1)) j }) ∙ to_flight) i;
        call = call i;
      }),
      ap (λ (f : FrontState). f.spare) c.me.view_is,
    )
