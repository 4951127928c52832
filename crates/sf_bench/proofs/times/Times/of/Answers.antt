use Rattle.std.proofs.Common.{arith}
use Rattle.std.proofs.lemmas.List.Sorted.{IsNonDecreasingBy-from_sort}
use Rattle.sf_bench.proofs.Middles.{first_is_least, middle_is_median}
use Rattle.sf_bench.proofs.times.Times.of.Goals as goal

pub returns-clause-least : goal.returns-clause-least
returns-clause-least c = first_is_least c.args.times _ (omega arith) c.sort_unstable.ensures.permutation (IsNonDecreasingBy-from_sort (λ x. x) _ c.sort_unstable.ensures.sorted)

pub returns-clause-median : goal.returns-clause-median
returns-clause-median c = middle_is_median c.args.times _ 4 (omega arith) c.sort_unstable.ensures.permutation (IsNonDecreasingBy-from_sort (λ x. x) _ c.sort_unstable.ensures.sorted)
