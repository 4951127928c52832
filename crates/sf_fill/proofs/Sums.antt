-- sums over getters, one more at a time
use Rattle.std.proofs.Common.{◌≡◌, ℕ, ◌+◌, List, [], ◌∷◌, ◌++◌, map, arith}
use Rattle.std.proofs.lemmas.List.{map-append}
use Rattle.std.proofs.lemmas.List.Sums.{sum_by-append, sum_by-cons}
use Rattle.std.specs.List.{sum_by}
use Rattle.sf_fill_counters.specs.declared.totals.Totals.{Totals}
use Rattle.sf_fill_counters.specs.Totals.{same_each, sums_of, plus}
use Rattle.sf_fill.specs.GetterValue.{GetterValue}

sum_last : (f : Totals → ℕ) (xs : List Totals) (x : Totals) (all : ℕ) → (all + f x) + sum_by f xs ≡ all + sum_by f (xs ++ x ∷ [])
sum_last f xs x all = omega (arith, sum_by-append f xs (x ∷ []), sum_by-cons f x [])

module _ {L : Type 0} where
  -- the last getter's counts go to those that are summed up already
  pub sums_on : (all : Totals) (xs : List (GetterValue L)) (x : GetterValue L)
      → plus (plus all x.counted) (sums_of (map (λ (y : GetterValue L). y.counted) xs)) ≡ plus all (sums_of (map (λ (y : GetterValue L). y.counted) (xs ++ x ∷ [])))
  sums_on all xs x =
      let count : GetterValue L → Totals = λ y. y.counted in
      let last = map-append count xs (x ∷ []) in
      rw last (same_each (λ counter. (counter all + counter x.counted) + sum_by counter (map count xs)) (λ counter. counter all + sum_by counter (map count xs ++ x.counted ∷ []))
      (λ counter. sum_last counter (map count xs) x.counted (counter all)))
