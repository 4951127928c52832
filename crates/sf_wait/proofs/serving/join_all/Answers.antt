use Rattle.std.proofs.Common.{[], ◌∷◌, ◌++◌, length, ap, ◌∙◌, sym, subst, append_assoc, arith, rules}
use Rattle.std.specs.Vec.Iter.{into_iter_items}
use Rattle.sf_wait.specs.Served.{HasServed, ArePaired}
use Rattle.sf_wait.proofs.Pairs.{paired_snoc, whole}
use Rattle.sf_wait.proofs.serving.join_all.Goals as goal

pub loop-one-init : goal.loop-one-init
loop-one-init g c =
    let r = c.requires.room in let given = c.into_iter-one-iterator.ensures.into_iter_gives in (
      tt,
      tt,
      rw r.0 tt,
      sym given.0,
      search rules,
      omega (arith, r.1, r.2, given.1),
    )

pub loop-one-preserved : goal.loop-one-preserved
loop-one-preserved g c =
    let was = c.loop-one.invariant in let step = c.in-Some.ensures.steps in let pushed = c.push_reserved.ensures in (
      was.0,
      was.1,
      rw pushed.items (paired_snoc (HasServed g.V.Fit.fits g.W.Work.answers) c.loop-one.yielded c.loop-one.list.items c.in-Some.one c.join.result was.2 c.join.ensures),
      was.3 ∙ ap (λ l. c.loop-one.yielded ++ l) step.0 ∙ sym (append_assoc c.loop-one.yielded (c.in-Some.one ∷ []) (into_iter_items c.next.new.self)),
      omega (arith, was.4, step.1, ap length step.0),
      omega (arith, was.5, step.1, pushed.len, pushed.capacity),
    )

pub returns : goal.returns
returns g c =
    let was = c.loop-one.invariant in
    subst (λ l. ArePaired (HasServed g.V.Fit.fits g.W.Work.answers) l c.loop-one.list.items) (sym (whole c.args.started.items c.loop-one.yielded (into_iter_items c.loop-one.one-iterator) was.3 (sym was.4 ∙ c.in-None.ensures.steps.0))) was.2
