-- times that grow at their end
use Rattle.std.proofs.Common.{◌≡◌, ◌≤◌, ◌<◌, ◌+◌, max, ℕ, List, [], ◌∷◌, ◌++◌, length, take, get_or, Option, Some, None, IfSome, Contains, inl, inr, sym, subst, arith}
use Rattle.std.proofs.lemmas.List.{take_more}
use Rattle.std.proofs.lemmas.List.Elements.{Contains-push_cases}
use Rattle.sf_lists.proofs.Lists.{push_split}
use Rattle.sf_replay.specs.declared.record.Interval.{Interval}
use Rattle.sf_replay_timed.specs.InTime.{RespectsTime}

-- all of these times begin at this moment or sooner
abbrev pub Begun : ℕ → List (Option Interval) → Type 0
Begun n ts = (a : Interval) → Contains ts (Some a) → a.from ≤ n

pub respects_nil : RespectsTime []
respects_nil [] q a b is within = cc
respects_nil (x ∷ p) q a b is within = cc

pub begun_nil : (n : ℕ) → Begun n []
begun_nil n a within = omega (arith, within.1)

pub respects_push : (ts : List (Option Interval)) (t : Option Interval) (n : ℕ) → RespectsTime ts → Begun n ts → IfSome t (λ b. n ≤ b.to) → RespectsTime (ts ++ t ∷ [])
respects_push ts t n kept begun fits p q a b is within =
    elim (push_split ts p q t (Some b) is) [
      | inl w ↦
          let last : n ≤ b.to = subst (λ (z : Option Interval). IfSome z (λ b. n ≤ b.to)) (sym w.1) fits in
          let first : a.from ≤ n = begun a (subst (λ (z : List (Option Interval)). Contains z (Some a)) w.0 within) in
          omega (arith, first, last)
      | inr w ↦ kept p w.0 a b w.1 within
    ]

pub begun_push : (ts : List (Option Interval)) (t : Option Interval) (n m : ℕ) → Begun n ts → n ≤ m → IfSome t (λ b. b.from ≤ m) → Begun m (ts ++ t ∷ [])
begun_push ts t n m begun more fits a within =
    elim (Contains-push_cases ts t (Some a) within) [
      | inl w ↦ let first = begun a w in omega (arith, first, more)
      | inr same ↦ subst (λ (z : Option Interval). IfSome z (λ b. b.from ≤ m)) same fits
    ]

fits_to : (t : Option Interval) (r : Interval) (n : ℕ) → IfSome t (λ known. known ≡ r) → n ≤ r.to → IfSome t (λ b. n ≤ b.to)
fits_to None r n is fits = tt
fits_to (Some b) r n is fits = subst (λ (z : Interval). n ≤ z.to) (sym is) fits

fits_from : (t : Option Interval) (r : Interval) (n : ℕ) → IfSome t (λ known. known ≡ r) → r.from ≤ n → IfSome t (λ b. b.from ≤ n)
fits_from None r n is fits = tt
fits_from (Some b) r n is fits = subst (λ (z : Interval). z.from ≤ n) (sym is) fits

-- the walk goes on past a time that ended no sooner than those before it began
pub walked_more : (ts : List (Option Interval)) (i : ℕ) (r : Interval) (n m : ℕ) → i < length ts → IfSome (get_or ts i None) (λ known. known ≡ r) → n ≤ r.to → m ≡ max n r.from
    → RespectsTime (take i ts) × Begun n (take i ts) → RespectsTime (take (i + 1) ts) × Begun m (take (i + 1) ts)
walked_more ts i r n m within known fits is before =
    let t = get_or ts i None in
    let grown : take (i + 1) ts ≡ take i ts ++ t ∷ [] = take_more ts i None within in
    let respects = respects_push (take i ts) t n before.0 before.1 (fits_to t r n known fits) in
    let begun = begun_push (take i ts) t n m before.1 (omega (arith, is)) (fits_from t r m known (omega (arith, is))) in
    (subst RespectsTime (sym grown) respects, subst (Begun m) (sym grown) begun)
