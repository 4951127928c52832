use Rattle.std.proofs.Common.{◌+◌, ◌≤◌, ◌++◌, ◌∷◌, [], Some, refl, sym, ◌∙◌, ap, subst}
use Rattle.sf_history.specs.declared.event.Event.TheVariants.{Forget}
use Rattle.sf_keyed_tells.specs.Tells.{call_of}
use Rattle.sf_keyed_words.specs.Rule.{number}
use Rattle.sf_keyed.specs.Known.{FrontState, GroupId}
use Rattle.sf_keyed.specs.Calls.{IsForgotten}
use Rattle.sf_keyed.proofs.Joint.{gone_on, still_gone}
use Rattle.sf_keyed.proofs.group.KeyedGroup.forget_at.Goals as goal
use Rattle.sf_keyed.proofs.group.KeyedGroup.forget_at.Goals.{in-Closed, in-Nothing, in-Gone, in-Other, in-Busy}

pub returns : goal.returns
returns c =
    let own = ap (λ (f : FrontState). f.group) c.me.view_is in
    let seen = ap (λ (f : FrontState). f.seen) c.me.view_is in
    let num = ap (λ (f : FrontState). f.number) c.me.view_is in
    let gone = ap (λ (f : FrontState). f.gone) c.me.view_is in
    let spare = ap (λ (f : FrontState). f.spare) c.me.view_is in
    let lost = ap (λ (f : FrontState). f.met.lost) c.me.view_is in
    let table = c.forget_often.ensures.own in
    let after : FrontState = Rattle.sf_keyed.specs.contracts.group.Front.the_view (record { seat = c.forget_often.new.seat; spare = c.me.inside.spare }) in
    elim c.match-forget_often.branch [
      | in-Closed w ↦
          let f = (c.forget_often.ensures.closed w.in-Closed.call w.in-Closed.is).0 in
          subst (IsForgotten c.args.me.now after (number c.args.name) c.args.tries) (sym w.result-is) (
            record {
              group = (λ i. record { table = table i; sizes = f.sizes i }) ∙ own;
              number = f.number ∙ num;
              others = f.adds.before;
              seen = f.adds.seen ∙ (ap (λ l. (l ++ f.adds.before) ++ Forget c.me.inside.seat.me.0.number (number c.args.name) (Some (call_of w.in-Closed.call)) ∷ []) seen ∙ ap (λ n. (c.args.me.now.seen ++ f.adds.before) ++ Forget n (number c.args.name) (Some (call_of w.in-Closed.call)) ∷ []) num);
              legal = f.adds.legal;
              gone = still_gone _ _ (gone_on _ _ _ _ (f.sizes ∙ ap (λ (g : GroupId). g.sizes) own) (f.gone ∙ gone)) f.adds.gone f.adds.legal;
            },
            spare,
          )
      | in-Nothing w ↦
          let g = c.forget_often.ensures.nothing w.in-Nothing.is in
          let f = g.0 in
          subst (IsForgotten c.args.me.now after (number c.args.name) c.args.tries) (sym w.result-is) (
            record {
              group = (λ i. record { table = table i; sizes = f.sizes i }) ∙ own;
              number = f.number ∙ num;
              seen = (f.grows.seen.0, f.grows.seen.1 ∙ ap (λ l. l ++ f.grows.seen.0) seen);
              legal = f.grows.legal;
              gone = still_gone _ _ (λ k is. f.gone k (gone_on _ _ _ _ (ap (λ (g : GroupId). g.sizes) own) gone k is)) f.grows.gone f.grows.legal;
            },
            f.none,
            g.1,
            spare,
          )
      | in-Gone w ↦
          let g = c.forget_often.ensures.gone w.in-Gone.is in
          let f = g.0 in
          subst (IsForgotten c.args.me.now after (number c.args.name) c.args.tries) (sym w.result-is) (
            record {
              group = (λ i. record { table = table i; sizes = f.sizes i }) ∙ own;
              number = f.number ∙ num;
              seen = (f.grows.seen.0, f.grows.seen.1 ∙ ap (λ l. l ++ f.grows.seen.0) seen);
              legal = f.grows.legal;
              gone = still_gone _ _ (λ k is. f.gone k (gone_on _ _ _ _ (ap (λ (g : GroupId). g.sizes) own) gone k is)) f.grows.gone f.grows.legal;
            },
            record { known = g.1; none = f.none; legal = f.grows.legal },
            spare,
          )
      | in-Other w ↦ absurd ((c.forget_often.ensures.other w.in-Other.field-0 w.in-Other.is).1 refl)
      | in-Busy w ↦
          let f = c.forget_often.ensures.busy w.in-Busy.is in
          subst (IsForgotten c.args.me.now after (number c.args.name) c.args.tries) (sym w.result-is) (
            record { group = (λ i. record { table = table i; sizes = f.0.sizes i }) ∙ own; number = f.0.number ∙ num; seen = f.0.seen ∙ seen; gone = f.0.gone ∙ gone; spare = spare },
            subst (λ n. n + c.args.tries ≤ c.forget_often.new.seat.me.0.lost) lost f.1,
          )
    ]
