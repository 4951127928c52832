use Rattle.std.proofs.Common.{◌≡◌, ◌%◌, ◌<◌, ◌++◌, ◌∷◌, [], sym, ◌∙◌, ap, subst}
use Rattle.sf_keyed_words.specs.declared.rule.KeyedSizes.{KeyedSizes}
use Rattle.sf_keyed_words.specs.declared.rule.View.{View}
use Rattle.std.specs.Prelude.{nat_eq}
use Rattle.sf_history.specs.Legal.{IsLegal}
use Rattle.sf_history.specs.declared.event.Event.TheVariants.{Enter}
use Rattle.sf_keyed_tells.specs.Tells.{call_of}
use Rattle.sf_keyed_words.specs.Rule.{number}
use Rattle.sf_keyed_words.specs.Plays.{GoneHasNoCall}
use Rattle.sf_keyed.specs.Known.{GroupId, FrontState}
use Rattle.sf_keyed.proofs.Joint.{gone_on, still_gone}
use Rattle.sf_keyed.proofs.group.KeyedGroup.ask_at.Goals as goal

pub invariant_of-result-in-Joined : goal.invariant_of-result-in-Joined
invariant_of-result-in-Joined c =
    let j = c.ask_often.ensures.joined c.in-Joined.call c.in-Joined.is in
    let cell = c.ask_often.ensures.cell c.in-Joined.call c.in-Joined.is in
    let new = c.split_ticket-seat.ensures.new in
    let sizes : c.split_ticket-seat.result.me.0.sizes ≡ c.self.inside.sizes = ap (λ q. q.0.sizes) new ∙ (j.sizes ∙ ap (λ (g : GroupId). g.sizes) (ap (λ (f : FrontState). f.group) c.me.view_is ∙ (c.requires.own ∙ sym c.self.view_is))) in (
      ap (λ q. q.0.ticket) new ∙ j.ticket,
      cell.0,
      cell.1,
      subst (λ (z : KeyedSizes). c.in-Joined.call % 1048576 < z.cells) (sym sizes) cell.2,
      ap (λ q. q.0.own) new,
      ap (λ q. q.0.leads) new,
      ap (λ q. q.1) new,
    )

pub invariant_of-me-in-Joined : goal.invariant_of-me-in-Joined
invariant_of-me-in-Joined c =
    let j = c.ask_often.ensures.joined c.in-Joined.call c.in-Joined.is in
    let left = c.split_ticket-seat.ensures.seat in
    let mine = c.me.invariant in (
      ap (λ (v : View). v.own) left ∙ (j.own_is ∙ mine.0),
      ap (λ (v : View). v.leads) left ∙ (j.leads ∙ mine.1),
      ap (λ (v : View). v.ticket) left,
      mine.3,
      λ some. subst (λ (z : KeyedSizes). c.me.inside.spare % 1048576 < z.cells) (sym (ap (λ (v : View). v.sizes) left ∙ j.sizes)) (mine.4 some),
    )

pub returns-in-Joined : goal.returns-in-Joined
returns-in-Joined c =
    let j = c.ask_often.ensures.joined c.in-Joined.call c.in-Joined.is in
    let left = c.split_ticket-seat.ensures.seat in
    let new = c.split_ticket-seat.ensures.new in
    let mine : FrontState = c.args.me.now in
    let own = ap (λ (f : FrontState). f.group) c.me.view_is in
    let table = c.ask_often.ensures.own in
    let num = ap (λ (f : FrontState). f.number) c.me.view_is in
    let gone = ap (λ (f : FrontState). f.gone) c.me.view_is in
    let seen = ap (λ (f : FrontState). f.seen) c.me.view_is in (
      record {
        member = j.member;
        adds = record {
          group = (λ i. record { table = (c.split_ticket-seat.ensures.own.0 ∙ table) i; sizes = (ap (λ (v : View). v.sizes) left ∙ j.sizes) i }) ∙ own;
          number = (ap (λ (v : View). v.number) left ∙ j.number) ∙ num;
          others = j.adds.before;
          seen = ap (λ (v : View). v.seen) left ∙ (j.adds.seen ∙ ap (λ l. (l ++ j.adds.before) ++ Enter j.member.caller (number c.args.name) (call_of c.in-Joined.call) j.member ∷ []) seen);
          legal = subst (IsLegal nat_eq) (sym (ap (λ (v : View). v.seen) left)) j.adds.legal;
          gone = still_gone _ _ (gone_on _ _ _ _ ((ap (λ (v : View). v.sizes) left ∙ j.sizes) ∙ ap (λ (g : GroupId). g.sizes) own) ((ap (λ (v : View). v.gone) left ∙ j.gone) ∙ gone)) (subst GoneHasNoCall (sym left) j.adds.gone) (subst (IsLegal nat_eq) (sym (ap (λ (v : View). v.seen) left)) j.adds.legal);
        };
      },
      (λ i. record { table = (c.split_ticket-seat.ensures.own.1 ∙ (ap (λ (g : GroupId). g.table) c.self.view_is ∙ (ap (λ (g : GroupId). g.table) (sym c.requires.own) ∙ sym (ap (λ (g : GroupId). g.table) own)))) i; sizes = (ap (λ q. q.0.sizes) new ∙ j.sizes) i }) ∙ own,
      ap (λ (f : FrontState). f.spare) c.me.view_is,
    )
