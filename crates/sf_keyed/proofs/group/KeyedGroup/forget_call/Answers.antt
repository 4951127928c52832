use Rattle.std.proofs.Common.{◌+◌, ◌≤◌, ◌++◌, ◌∷◌, [], Some, refl, sym, ◌∙◌, ap, subst}
use Rattle.std.specs.Prelude.{nat_eq}
use Rattle.sf_history.specs.History.{open_call}
use Rattle.sf_history.specs.declared.event.Event.TheVariants.{Forget}
use Rattle.sf_keyed_tells.specs.Tells.{call_of}
use Rattle.sf_keyed_words.specs.Rule.{number}
use Rattle.sf_keyed.specs.Known.{FrontState, GroupId}
use Rattle.sf_keyed.specs.Calls.{IsEnded, AddsTo}
use Rattle.sf_keyed.proofs.Joint.{gone_on, not_open, other_open, still_gone}
use Rattle.sf_keyed.proofs.group.KeyedGroup.forget_call.Goals as goal
use Rattle.sf_keyed.proofs.group.KeyedGroup.forget_call.Goals.{in-Closed, in-Nothing, in-Gone, in-Other, in-Busy}

pub returns : goal.returns
returns c =
    let own = ap (λ (f : FrontState). f.group) c.me.view_is in
    let seen = ap (λ (f : FrontState). f.seen) c.me.view_is in
    let num = ap (λ (f : FrontState). f.number) c.me.view_is in
    let gone = ap (λ (f : FrontState). f.gone) c.me.view_is in
    let spare = ap (λ (f : FrontState). f.spare) c.me.view_is in
    let lost = ap (λ (f : FrontState). f.met.lost) c.me.view_is in
    let table = c.forget_often.ensures.own in
    let after : FrontState = Rattle.sf_keyed.specs.contracts.group.Front.the_view (record { seat = c.forget_often.new.seat; spare = c.me.inside.spare }) in
    let ends = IsEnded c.args.me.now after (number c.args.name) c.args.call c.args.tries in
    elim c.match-forget_often.branch [
      | in-Closed w ↦
          let g = c.forget_often.ensures.closed w.in-Closed.field-0 w.in-Closed.is in
          let f = g.0 in
          subst ends (sym w.result-is) (
            subst (λ e. AddsTo c.args.me.now after (Forget c.args.me.now.number (number c.args.name) (Some (call_of e)))) (g.1 c.args.call refl) (record {
              group = (λ i. record { table = table i; sizes = f.sizes i }) ∙ own;
              number = f.number ∙ num;
              others = f.adds.before;
              seen = f.adds.seen ∙ (ap (λ l. (l ++ f.adds.before) ++ Forget c.me.inside.seat.me.0.number (number c.args.name) (Some (call_of w.in-Closed.field-0)) ∷ []) seen ∙ ap (λ n. (c.args.me.now.seen ++ f.adds.before) ++ Forget n (number c.args.name) (Some (call_of w.in-Closed.field-0)) ∷ []) num);
              legal = f.adds.legal;
              gone = still_gone _ _ (gone_on _ _ _ _ (f.sizes ∙ ap (λ (g : GroupId). g.sizes) own) (f.gone ∙ gone)) f.adds.gone f.adds.legal;
            }),
            spare,
          )
      | in-Nothing w ↦
          let f = (c.forget_often.ensures.nothing w.in-Nothing.is).0 in
          subst ends (sym w.result-is) (
            record {
              group = (λ i. record { table = table i; sizes = f.sizes i }) ∙ own;
              number = f.number ∙ num;
              seen = (f.grows.seen.0, f.grows.seen.1 ∙ ap (λ l. l ++ f.grows.seen.0) seen);
              legal = f.grows.legal;
              gone = still_gone _ _ (λ k is. f.gone k (gone_on _ _ _ _ (ap (λ (g : GroupId). g.sizes) own) gone k is)) f.grows.gone f.grows.legal;
            },
            not_open (open_call nat_eq c.forget_often.new.seat.me.0.seen (number c.args.name)) c.args.call f.none,
            spare,
          )
      | in-Gone w ↦
          let g = c.forget_often.ensures.gone w.in-Gone.is in
          let f = g.0 in
          subst ends (sym w.result-is) (
            record {
              group = (λ i. record { table = table i; sizes = f.sizes i }) ∙ own;
              number = f.number ∙ num;
              seen = (f.grows.seen.0, f.grows.seen.1 ∙ ap (λ l. l ++ f.grows.seen.0) seen);
              legal = f.grows.legal;
              gone = still_gone _ _ (λ k is. f.gone k (gone_on _ _ _ _ (ap (λ (g : GroupId). g.sizes) own) gone k is)) f.grows.gone f.grows.legal;
            },
            not_open (open_call nat_eq c.forget_often.new.seat.me.0.seen (number c.args.name)) c.args.call f.none,
            spare,
          )
      | in-Other w ↦
          let f = (c.forget_often.ensures.other w.in-Other.field-0 w.in-Other.is).0 in
          subst ends (sym w.result-is) (
            record {
              group = (λ i. record { table = table i; sizes = f.sizes i }) ∙ own;
              number = f.number ∙ num;
              seen = (f.grows.seen.0, f.grows.seen.1 ∙ ap (λ l. l ++ f.grows.seen.0) seen);
              legal = f.grows.legal;
              gone = still_gone _ _ (gone_on _ _ _ _ (f.sizes ∙ ap (λ (g : GroupId). g.sizes) own) (f.gone ∙ gone)) f.grows.gone f.grows.legal;
            },
            other_open (open_call nat_eq c.forget_often.new.seat.me.0.seen (number c.args.name)) w.in-Other.field-0 c.args.call f.other (λ same. f.apart (ap Some (sym same))),
            spare,
          )
      | in-Busy w ↦
          let f = c.forget_often.ensures.busy w.in-Busy.is in
          subst ends (sym w.result-is) (
            record { group = (λ i. record { table = table i; sizes = f.0.sizes i }) ∙ own; number = f.0.number ∙ num; seen = f.0.seen ∙ seen; gone = f.0.gone ∙ gone; spare = spare },
            subst (λ n. n + c.args.tries ≤ c.forget_often.new.seat.me.0.lost) lost f.1,
          )
    ]
