use Rattle.std.specs.Prelude.{◌≡◌, ◌+◌, map, vec_len}
use Rattle.sf_fill_counters.specs.Totals.{sums_of, plus}
use Rattle.sf_fill.specs.GetterValue.{GetterValue}
use Rattle.sf_fill.proofs.fill.Fill.sum_up.Given as goal

abbrev pub invariant-rest : goal.invariant-rest
invariant-rest g l = record {
  parts : l.all.parts + vec_len l.getters ≡ vec_len l.fn.getters;
  counted : plus l.all.counted (sums_of (map (λ (x : GetterValue g.row.L.Denot). x.counted) l.getters.items)) ≡ sums_of (map (λ (x : GetterValue g.row.L.Denot). x.counted) l.fn.getters.items);
}

abbrev pub decreases-rest : goal.decreases-rest
decreases-rest g l = vec_len l.getters
