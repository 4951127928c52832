-- how trimming goes on, by one entry at a time
use Rattle.std.proofs.Common.{◌≡◌, ℕ, zero, suc, ◌+◌, ◌-◌, ◌/◌, ◌<◌, ◌≤◌, nat_lt, Bool, true, false, cond, List, [], ◌∷◌, length, take, refl, sym, ap, ◌∙◌, subst, arith}
use Rattle.std.proofs.lemmas.Bool.Decides.{nat_tests}
use Rattle.std.proofs.lemmas.List.{length-take-le}
use Rattle.std.specs.Map.{remove_entry}
use Rattle.sf_fill_caches.specs.declared.shelf.CacheEntry.{CacheEntry}
use Rattle.sf_fill_caches.specs.Weights.{kept_weight, weight_of, but_last}
use Rattle.sf_fill_caches.specs.Trimming.{weight_of_both, one_less, trimmed_by, trimmed}

module _ {T : Type 0} where
  -- what weighs something has an entry
  pub some_entry : (es : List (ℕ × CacheEntry T)) → 0 < weight_of es → 0 < length es
  some_entry [] h = absurd (omega arith)
  some_entry (e ∷ es) h = omega arith

  pub length-but_last : (es : List (ℕ × CacheEntry T)) → 0 < length es → length (but_last es) + 1 ≡ length es
  length-but_last es h = omega (arith, length-take-le (length es - 1) es (omega arith))

  pub weight_of-take : (k : ℕ) (es : List (ℕ × CacheEntry T)) → weight_of (take k es) ≤ weight_of es
  weight_of-take k [] = elim k as (λ j. weight_of (take {A = ℕ × CacheEntry T} j []) ≤ 0) [ zero ↦ omega arith | suc j ↦ omega arith ]
  weight_of-take k (e ∷ es) = elim k as (λ j. weight_of (take j (e ∷ es)) ≤ kept_weight e.1 + weight_of es) [ zero ↦ omega arith | suc j ↦ omega (arith, weight_of-take j es) ]

  pub weight_of-remove : (test : ℕ → Bool) (es : List (ℕ × CacheEntry T)) → weight_of (remove_entry test es) ≤ weight_of es
  weight_of-remove test [] = omega arith
  weight_of-remove test (e ∷ es) = elim (test e.0) as (λ b. weight_of (cond b es (e ∷ remove_entry test es)) ≤ kept_weight e.1 + weight_of es) [
    | true ↦ omega arith
    | false ↦ omega (arith, weight_of-remove test es)
  ]

  by_steps : (n m limit : ℕ) (b : List (ℕ × CacheEntry T) × List (ℕ × CacheEntry T)) → n ≡ suc m → limit < weight_of_both b → trimmed_by n limit b ≡ trimmed_by m limit (one_less b)
  by_steps n m limit b is over =
      let t : nat_lt limit (weight_of_both b) ≡ true = grind (arith, nat_tests) in
      rw (is, t) refl

  -- nothing is dropped where the limit is kept
  pub trims_none : (limit : ℕ) (b : List (ℕ × CacheEntry T) × List (ℕ × CacheEntry T)) → weight_of_both b ≤ limit → trimmed limit b ≡ b
  trims_none limit b kept = (elim (length b.0 + length b.1) as (λ n. trimmed_by n limit b ≡ b) [
    | zero ↦ refl
    | suc n ↦ let f : nat_lt limit (weight_of_both b) ≡ false = grind (arith, nat_tests) in rw f refl
  ])

  -- hot weighs more than an eighth of main
  pub trims_hot : (limit : ℕ) (main hot : List (ℕ × CacheEntry T)) → weight_of main / 8 < weight_of hot → limit < weight_of main + weight_of hot
      → (trimmed limit (main, but_last hot) ≡ trimmed limit (main, hot)) × (length main + length (but_last hot) + 1 ≡ length main + length hot)
  trims_hot limit main hot more over =
      let some = some_entry hot (omega arith) in
      let short = length-but_last hot some in
      let t : nat_lt (weight_of main / 8) (weight_of hot) ≡ true = grind (arith, nat_tests) in
      let less : one_less (main, hot) ≡ (main, but_last hot) = rw t refl in
      let on = by_steps (length main + length hot) (length main + length (but_last hot)) limit (main, hot) (omega arith) over in
      (sym (on ∙ ap (trimmed_by (length main + length (but_last hot)) limit) less), omega arith)

  -- it does not
  pub trims_main : (limit : ℕ) (main hot : List (ℕ × CacheEntry T)) → weight_of hot ≤ weight_of main / 8 → limit < weight_of main + weight_of hot
      → (trimmed limit (but_last main, hot) ≡ trimmed limit (main, hot)) × (length (but_last main) + length hot + 1 ≡ length main + length hot)
  trims_main limit main hot less over =
      let some = some_entry main (omega arith) in
      let short = length-but_last main some in
      let f : nat_lt (weight_of main / 8) (weight_of hot) ≡ false = grind (arith, nat_tests) in
      let fewer : one_less (main, hot) ≡ (but_last main, hot) = rw f refl in
      let on = by_steps (length main + length hot) (length (but_last main) + length hot) limit (main, hot) (omega arith) over in
      (sym (on ∙ ap (trimmed_by (length (but_last main) + length hot) limit) fewer), omega arith)
