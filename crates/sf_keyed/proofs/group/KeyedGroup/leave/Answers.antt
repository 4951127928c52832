use Rattle.std.proofs.Common.{◌≡◌, ℕ, ◌++◌, Some, sym, ◌∙◌, ap, subst}
use Rattle.sf_history.specs.History.{result_of}
use Rattle.sf_keyed_tells.specs.Tells.{call_of}
use Rattle.sf_keyed_words.specs.declared.rule.View.{View}
use Rattle.sf_keyed.specs.Known.{FrontState, FlightState, GroupId}
use Rattle.sf_keyed.specs.Calls.{IsLeft, Sees}
use Rattle.sf_keyed.proofs.Joint.{gone_on, still_gone, two_parts}
use Rattle.sf_keyed.proofs.group.KeyedGroup.leave.Goals as goal
use Rattle.sf_keyed.proofs.group.KeyedGroup.leave.Goals.{in-Some, in-None}

pub returns : goal.returns
returns c =
    let left = c.leave_call.ensures.left in
    let heard = c.join_ticket.ensures.heard in
    let own = ap (λ (f : FrontState). f.group) c.me.view_is in
    let seen = ap (λ (f : FrontState). f.seen) c.me.view_is in
    let num = ap (λ (f : FrontState). f.number) c.me.view_is in
    let gone = ap (λ (f : FrontState). f.gone) c.me.view_is in
    let spare = ap (λ (f : FrontState). f.spare) c.me.view_is in
    let call = ap (λ (f : FlightState). f.call) c.ticket.view_is in
    let sizes = left.sizes ∙ ap (λ (v : View). v.sizes) heard.view in
    let more = left.seen in
    let old = c.args.me.now in
    let new : FrontState = record {
      group = record { table = c.leave_call.new.seat.table_id; sizes = c.leave_call.new.seat.me.0.sizes };
      number = c.leave_call.new.seat.me.0.number;
      seen = c.leave_call.new.seat.me.0.seen;
      gone = c.leave_call.new.seat.me.0.gone;
      spare = c.me.inside.spare;
      met = record { lost = c.leave_call.new.seat.me.0.lost; top = c.leave_call.new.seat.me.0.found; opened = c.leave_call.new.seat.me.0.opened; state = c.leave_call.new.seat.me.0.state; place = c.leave_call.new.seat.me.0.place };
    } in
    let sees : Sees old new = record {
      group = (λ i. record { table = (c.leave_call.ensures.own ∙ c.join_ticket.ensures.own) i; sizes = sizes i }) ∙ own;
      number = (left.number ∙ ap (λ (v : View). v.number) heard.view) ∙ num;
      seen = (heard.seen.0 ++ more.0, two_parts old.seen heard.seen.0 more.0 c.join_ticket.new.seat.me.0.seen c.leave_call.new.seat.me.0.seen (heard.seen.1 ∙ ap (λ l. l ++ heard.seen.0) seen) more.1);
      legal = left.legal heard.legal;
      gone = still_gone _ _ (gone_on _ _ _ _ (sizes ∙ ap (λ (g : GroupId). g.sizes) own) ((left.gone ∙ ap (λ (v : View). v.gone) heard.view) ∙ gone)) (left.none heard.gone) (left.legal heard.legal);
    } in
    elim c.match-leave_call.branch [
      | in-Some w ↦
          let last = c.leave_call.ensures.last w.in-Some.value w.in-Some.is in
          subst (IsLeft old new c.args.ticket) (sym w.result-is) (record { sees = sees; spare = spare; result = subst (λ (e : ℕ). result_of new.seen (call_of e) ≡ Some (Some w.in-Some.value)) call last.1 }, last.0)
      | in-None w ↦ subst (IsLeft old new c.args.ticket) (sym w.result-is) (sees, spare, c.leave_call.ensures.others w.in-None.is)
    ]
