use Rattle.std.proofs.Common.{◌≡◌, ◌++◌, ◌∷◌, [], Option, option_to_list, map, sym, ap, ◌∙◌, arith}
use Rattle.sf_fill_counters.specs.Totals.{sums_of, plus}
use Rattle.sf_fill.specs.GetterValue.{GetterValue}
use Rattle.sf_fill.proofs.Sums.{sums_on}
use Rattle.sf_fill.proofs.fill.Fill.sum_up.Goals as goal

pub rest-preserved : goal.rest-preserved
rest-preserved g c =
    let x = c.in-Some-pop.getter in let all = c.rest.all.counted in let rest = c.pop-in-rest.new.self.items in
    let was : c.rest.getters.items ≡ rest ++ x ∷ [] = c.pop-in-rest.ensures.items ∙ ap (λ (o : Option (GetterValue g.row.L.Denot)). rest ++ option_to_list o) c.in-Some-pop.is in
    let len = c.pop-in-rest.ensures.cases in
    let parts = c.rest.invariant.parts in
    rw (c.take.ensures, c.end-part.ensures, c.into_tallies-in-Some-pop.ensures) (record {
      parts = omega (arith, parts, rw c.in-Some-pop.is at len);
      counted = sums_on all rest x ∙ ap (λ es. plus all (sums_of (map (λ (y : GetterValue g.row.L.Denot). y.counted) es))) (sym was) ∙ c.rest.invariant.counted;
    })
