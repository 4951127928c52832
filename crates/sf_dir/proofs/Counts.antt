-- How many of the numbers 1 to n pass a test.
use Rattle.std.proofs.Common.{◌≡◌, ◌≢◌, ℕ, zero, suc, ◌+◌, ◌<◌, ◌≤◌, Bool, true, false, cond, eqb, eq-eqb, ne_eqb, refl, sym, ap, ◌∙◌, arith}
use mathlib.Core.Logic.{dite}
use native.Mathlib.Decide.{ℕ_discrete}
use Rattle.sf_dir.specs.Rule.{count_to}

one_or_none : (b : Bool) → cond {A = ℕ} b 1 0 ≤ 1
one_or_none true = omega arith
one_or_none false = omega arith

pub count_to_le : (f : ℕ → Bool) (n : ℕ) → count_to f n ≤ n
count_to_le f zero = omega arith
count_to_le f (suc n) = let one = one_or_none (f (suc n)) in let rest = count_to_le f n in omega arith

pub count_to_same : (f g : ℕ → Bool) (n : ℕ) → ((i : ℕ) → 1 ≤ i → i ≤ n → g i ≡ f i) → count_to g n ≡ count_to f n
count_to_same f g zero same = refl
count_to_same f g (suc n) same = ap (λ b. cond {A = ℕ} b 1 0 + count_to g n) (same (suc n) (omega arith) (omega arith)) ∙ ap (λ k. cond {A = ℕ} (f (suc n)) 1 0 + k) (count_to_same f g n (λ i l h. same i l (omega arith)))

-- one more passes
pub count_to_more : (f g : ℕ → Bool) (n i : ℕ) → 1 ≤ i → i ≤ n → f i ≡ false → g i ≡ true → ((j : ℕ) → j ≢ i → g j ≡ f j) → count_to g n ≡ count_to f n + 1
count_to_more f g zero i l h was is same = absurd (omega arith)
count_to_more f g (suc n) i l h was is same = dite (ℕ_discrete i (suc n))
    (λ e.
    let rest = count_to_same f g n (λ j l h. same j (λ q. omega arith)) in
    let now : cond {A = ℕ} (g (suc n)) 1 0 ≡ 1 = ap (λ b. cond {A = ℕ} b 1 0) (ap g (sym e) ∙ is) in
    let then : cond {A = ℕ} (f (suc n)) 1 0 ≡ 0 = ap (λ b. cond {A = ℕ} b 1 0) (ap f (sym e) ∙ was) in
    omega arith)
    (λ d.
    let rest = count_to_more f g n i l (omega arith) was is same in
    let stays : cond {A = ℕ} (g (suc n)) 1 0 ≡ cond {A = ℕ} (f (suc n)) 1 0 = ap (λ b. cond {A = ℕ} b 1 0) (same (suc n) (λ q. d (sym q))) in
    omega arith)

-- one that does not pass leaves room
pub count_to_room : (f : ℕ → Bool) (n i : ℕ) → 1 ≤ i → i ≤ n → f i ≡ false → count_to f n < n
count_to_room f n i l h was =
    let g : ℕ → Bool = λ j. cond (eqb j i) true (f j) in
    let more = count_to_more f g n i l h was (ap (λ b. cond b true (f i)) (eq-eqb i i refl)) (λ j d. ap (λ b. cond b true (f j)) (ne_eqb j i d)) in
    let most = count_to_le g n in
    omega arith
