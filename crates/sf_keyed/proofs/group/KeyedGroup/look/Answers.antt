use Rattle.std.proofs.Common.{◌≡◌, ℕ, ◌++◌, Some, sym, ◌∙◌, ap, subst}
use Rattle.std.specs.Prelude.{nat_eq}
use Rattle.sf_history.specs.Legal.{IsLegal}
use Rattle.sf_history.specs.History.{result_of}
use Rattle.sf_keyed_tells.specs.Tells.{call_of}
use Rattle.sf_keyed_words.specs.declared.rule.View.{View}
use Rattle.sf_keyed_words.specs.Plays.{GoneHasNoCall}
use Rattle.sf_keyed.specs.Known.{FrontState, FlightState, GroupId}
use Rattle.sf_keyed.proofs.Joint.{gone_on, still_gone, two_parts}
use Rattle.sf_keyed.proofs.group.KeyedGroup.look.Goals as goal

pub returns-in-Some-clause-looked : goal.returns-in-Some-clause-looked
returns-in-Some-clause-looked c =
    let read = c.look.ensures.looked c.in-Some.value c.in-Some.is in
    let heard = c.join_ticket.ensures.heard in
    let left = c.split_ticket-seat.ensures.seat in
    let own = ap (λ (f : FrontState). f.group) c.me.view_is in
    let seen = ap (λ (f : FrontState). f.seen) c.me.view_is in
    let num = ap (λ (f : FrontState). f.number) c.me.view_is in
    let gone = ap (λ (f : FrontState). f.gone) c.me.view_is in
    let call = ap (λ (f : FlightState). f.call) c.ticket.view_is in
    let sizes = ap (λ (v : View). v.sizes) left ∙ (read.sizes ∙ ap (λ (v : View). v.sizes) heard.view) in
    let table = c.split_ticket-seat.ensures.own.0 ∙ (c.look.ensures.own ∙ c.join_ticket.ensures.own) in
    let after = ap (λ (v : View). v.seen) left in
    let more = read.grows.seen in
    record {
      sees = record {
        group = (λ i. record { table = table i; sizes = sizes i }) ∙ own;
        number = ap (λ (v : View). v.number) left ∙ ((read.number ∙ ap (λ (v : View). v.number) heard.view) ∙ num);
        seen = (heard.seen.0 ++ more.0, two_parts c.args.me.now.seen heard.seen.0 more.0 c.join_ticket.new.seat.me.0.seen c.split_ticket-seat.new.seat.me.0.seen (heard.seen.1 ∙ ap (λ l. l ++ heard.seen.0) seen) (after ∙ more.1));
        legal = subst (IsLegal nat_eq) (sym after) read.grows.legal;
        gone = still_gone _ _ (gone_on _ _ _ _ (sizes ∙ ap (λ (g : GroupId). g.sizes) own) (ap (λ (v : View). v.gone) left ∙ ((read.gone ∙ ap (λ (v : View). v.gone) heard.view) ∙ gone))) (subst GoneHasNoCall (sym left) read.grows.gone) (subst (IsLegal nat_eq) (sym after) read.grows.legal);
      };
      spare = ap (λ (f : FrontState). f.spare) c.me.view_is;
      result = ap (λ h. result_of h (call_of c.args.ticket.call)) after ∙ subst (λ (e : ℕ). result_of c.look.new.seat.me.0.seen (call_of e) ≡ Some (Some c.in-Some.value)) call read.result;
    }
