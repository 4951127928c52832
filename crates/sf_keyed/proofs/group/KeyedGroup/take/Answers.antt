use Rattle.std.proofs.Common.{◌≡◌, ℕ, ◌++◌, Some, ◌∙◌, ap, subst}
use Rattle.sf_history.specs.History.{result_of}
use Rattle.sf_keyed_tells.specs.Tells.{call_of}
use Rattle.sf_keyed_words.specs.declared.rule.View.{View}
use Rattle.sf_keyed.specs.Known.{FrontState, FlightState, GroupId}
use Rattle.sf_keyed.proofs.Joint.{gone_on, still_gone, two_parts}
use Rattle.sf_keyed.proofs.group.KeyedGroup.take.Goals as goal

pub returns-in-Some-clause-taken : goal.returns-in-Some-clause-taken
returns-in-Some-clause-taken c =
    let taken = c.take.ensures.taken c.in-Some.value c.in-Some.is in
    let heard = c.join_ticket.ensures.heard in
    let own = ap (λ (f : FrontState). f.group) c.me.view_is in
    let seen = ap (λ (f : FrontState). f.seen) c.me.view_is in
    let num = ap (λ (f : FrontState). f.number) c.me.view_is in
    let gone = ap (λ (f : FrontState). f.gone) c.me.view_is in
    let call = ap (λ (f : FlightState). f.call) c.ticket.view_is in
    let more = taken.grows.seen in
    record {
      sees = record {
        group = (λ i. record { table = (c.take.ensures.own ∙ c.join_ticket.ensures.own) i; sizes = (taken.sizes ∙ ap (λ (v : View). v.sizes) heard.view) i }) ∙ own;
        number = (taken.number ∙ ap (λ (v : View). v.number) heard.view) ∙ num;
        seen = (heard.seen.0 ++ more.0, two_parts c.args.me.now.seen heard.seen.0 more.0 c.join_ticket.new.seat.me.0.seen c.take.new.seat.me.0.seen (heard.seen.1 ∙ ap (λ l. l ++ heard.seen.0) seen) more.1);
        legal = taken.grows.legal;
        gone = still_gone _ _ (gone_on _ _ _ _ ((taken.sizes ∙ ap (λ (v : View). v.sizes) heard.view) ∙ ap (λ (g : GroupId). g.sizes) own) ((taken.gone ∙ ap (λ (v : View). v.gone) heard.view) ∙ gone)) taken.grows.gone taken.grows.legal;
      };
      spare = ap (λ (f : FrontState). f.spare) c.me.view_is;
      result = subst (λ (e : ℕ). result_of c.take.new.seat.me.0.seen (call_of e) ≡ Some (Some c.in-Some.value)) call taken.result;
    }
