-- how many stand below and above a place of an ascending list, and of what it was sorted from
use Rattle.std.proofs.Common.{◌≡◌, ℕ, ◌+◌, ◌-◌, ◌<◌, ◌≤◌, Bool, false, cond, List, length, get_or, take, drop, arith, nat_lt}
use Rattle.std.proofs.lemmas.Bool.{le-ltb}
use Rattle.std.proofs.lemmas.List.{get_or-drop, length-drop, get_or-take, length-take-le}
use Rattle.std.proofs.lemmas.List.Elements.{All-from_get_or, Contains-get_or}
use Rattle.std.proofs.lemmas.List.Sorted.{All-permutation, Contains-permutation, IsPermutation-sym, length_permutation, sum_by-IsPermutation}
use Rattle.std.proofs.lemmas.List.Sums.{count_by-le-length, sum_by-le, sum_by-take-drop}
use Rattle.std.specs.List.{count_by}
use Rattle.std.specs.List.Sorted.{IsNonDecreasing, IsPermutation}
use Rattle.sf_bench.specs.Times.{IsLeast, IsMedian}

none_counted : (p : ℕ → Bool) (xs : List ℕ) → ((k : ℕ) → k < length xs → p (get_or xs k 0) ≡ false) → count_by p xs ≡ 0
none_counted p xs fails =
    let light : (k : ℕ) → k < length xs → cond (p (get_or xs k 0)) 1 0 ≤ 0 = λ k within. rw (fails k within) (omega arith) in
    let all = sum_by-le (λ x. cond (p x) 1 0) 0 xs (All-from_get_or (λ x. cond (p x) 1 0 ≤ 0) xs 0 light) in
    omega arith

-- where the test refuses all from a place on, it counts no more than stand before
counted_before : (p : ℕ → Bool) (xs : List ℕ) (i : ℕ) → i ≤ length xs → ((k : ℕ) → i ≤ k → k < length xs → p (get_or xs k 0) ≡ false) → count_by p xs ≤ i
counted_before p xs i within fails =
    let none : count_by p (drop i xs) ≡ 0 = none_counted p (drop i xs) (λ k below. rw (get_or-drop i xs k 0) (fails (i + k) (omega arith) (omega (arith, length-drop i xs)))) in
    omega (arith, count_by-le-length p (take i xs), length-take-le i xs within, sum_by-take-drop (λ x. cond (p x) 1 0) xs i)

-- where the test refuses all before a place, it counts no more than stand from there on
counted_after : (p : ℕ → Bool) (xs : List ℕ) (i : ℕ) → i ≤ length xs → ((k : ℕ) → k < i → p (get_or xs k 0) ≡ false) → count_by p xs ≤ length xs - i
counted_after p xs i within fails =
    let none : count_by p (take i xs) ≡ 0 = none_counted p (take i xs) (λ k below. let first : k < i = omega (arith, length-take-le i xs within) in rw (get_or-take i xs k 0 first) (fails k first)) in
    omega (arith, count_by-le-length p (drop i xs), length-drop i xs, sum_by-take-drop (λ x. cond (p x) 1 0) xs i)

-- of what is sorted, the first is the least
pub first_is_least : (xs sorted : List ℕ) → 0 < length xs → IsPermutation xs sorted → IsNonDecreasing sorted → IsLeast xs (get_or sorted 0 0)
first_is_least xs sorted some moved rising =
    let back = IsPermutation-sym xs sorted moved in
    let many : length sorted ≡ length xs = length_permutation xs sorted moved in
    record {
      found = Contains-permutation sorted xs (get_or sorted 0 0) back (Contains-get_or sorted 0 0 (omega arith));
      lowest = All-permutation (λ time. get_or sorted 0 0 ≤ time) sorted xs back
          (All-from_get_or (λ time. get_or sorted 0 0 ≤ time) sorted 0 (λ k within. rising 0 k 0 (omega arith) within));
    }

-- and the one with as many before it as after it is the median
pub middle_is_median : (xs sorted : List ℕ) (i : ℕ) → length xs ≡ i + i + 1 → IsPermutation xs sorted → IsNonDecreasing sorted → IsMedian xs (get_or sorted i 0)
middle_is_median xs sorted i odd moved rising =
    let back = IsPermutation-sym xs sorted moved in
    let many : length sorted ≡ length xs = length_permutation xs sorted moved in
    let x = get_or sorted i 0 in
    let below : count_by (λ time. nat_lt time x) sorted ≤ i =
    counted_before (λ time. nat_lt time x) sorted i (omega arith) (λ k from within. le-ltb (get_or sorted k 0) x (rising i k 0 from within)) in
    let above : count_by (λ time. nat_lt x time) sorted ≤ length sorted - (i + 1) =
    counted_after (λ time. nat_lt x time) sorted (i + 1) (omega arith) (λ k first. le-ltb x (get_or sorted k 0) (rising k i 0 (omega arith) (omega arith))) in
    record {
      found = Contains-permutation sorted xs x back (Contains-get_or sorted i 0 (omega arith));
      below = omega (arith, sum_by-IsPermutation (λ time. cond (nat_lt time x) 1 0) xs sorted moved);
      above = omega (arith, sum_by-IsPermutation (λ time. cond (nat_lt x time) 1 0) xs sorted moved);
    }
