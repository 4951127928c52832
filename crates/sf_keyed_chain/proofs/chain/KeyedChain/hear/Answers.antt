use Rattle.std.proofs.Common.{rules, arith, ◌<◌, [], ◌∷◌, ◌++◌, append_assoc, length, length-append, sym, ◌∙◌, ap, subst}
use Rattle.std.specs.Vec.Iter.{into_iter_items}
use Rattle.std.specs.List.{slice_get}
use Rattle.sf_keyed_chain.proofs.Sights.{all_both, learned_next}
use Rattle.sf_keyed_chain.proofs.chain.KeyedChain.hear.Goals as goal

pub loop-told-preserved : goal.loop-told-preserved
loop-told-preserved c =
    let before = c.loop-told in
    let is = before.invariant in
    let after = c.hear_at.new.me in
    let within : length before.yielded < length after = subst (λ n. n < length after) is.2 c.hear_at.ensures.known in
    let count = length-append before.yielded (c.in-Some.told ∷ []) in
    let number = is.2 in (
      append_assoc before.yielded (c.in-Some.told ∷ []) (into_iter_items c.next.new.self) ∙ (ap (λ l. before.yielded ++ l) (sym c.in-Some.ensures.steps.0) ∙ is.0),
      search rules,
      omega (arith, count, number),
      omega (arith, count, within),
      c.hear_at.ensures.of,
      all_both c.args.me.now before.me after is.5 c.hear_at.ensures.heard,
      learned_next before.yielded c.in-Some.told before.me after is.6 c.hear_at.ensures.heard within (λ s e. c.hear_at.ensures.told s (ap (slice_get after) is.2 ∙ e)),
    )
