-- a history has one verdict
use Rattle.std.proofs.Common.{◌≡◌, ℕ, ◌+◌, Bool, List, [], ◌∷◌, ◌++◌, ◌⊎◌, inl, inr, length, Some, refl, sym, ◌∙◌, ap, subst}
use Rattle.sf_history.specs.declared.event.Event.{Event}
use Rattle.sf_history.specs.Legal.{IsLegal}
use Rattle.sf_replay_check.specs.declared.cause.Cause.{Cause}
use Rattle.sf_replay_check.specs.declared.checking.Verdict.TheVariants.{Legal, Illegal}
use Rattle.sf_replay_check.specs.Checker.{first_cause, IsFirstFault, HasOneVerdict}
use Rattle.sf_replay_check.proofs.Causes.{no_cause}
use Rattle.sf_replay_check.proofs.Verdicts.{fault_illegal}

module _ {X : Type 0} where
  -- two ways to take one event out of a list: at one place, or the one lies before the other
  parted : (p a q b : List X) (x y : X) → p ++ x ∷ a ≡ q ++ y ∷ b → ((p ≡ q) × (x ≡ y)) ⊎ (((r : List X) × (q ≡ p ++ x ∷ r)) ⊎ ((r : List X) × (p ≡ q ++ y ∷ r)))
  parted [] a [] b x y is = let heads : x ≡ y = cc in inl (refl, heads)
  parted [] a (z ∷ q) b x y is = let heads : z ≡ x = cc in inr (inl (q, ap (λ w. w ∷ q) heads))
  parted (z ∷ p) a [] b x y is = let heads : z ≡ y = cc in inr (inr (p, ap (λ w. w ∷ p) heads))
  parted (z ∷ p) a (w ∷ q) b x y is =
      let heads : z ≡ w = cc in
      let tails : p ++ x ∷ a ≡ q ++ y ∷ b = cc in
      elim (parted p a q b x y tails) [
        | inl s ↦ inl (ap (λ v. v ∷ p) heads ∙ ap (λ v. w ∷ v) s.0, s.1)
        | inr (inl s) ↦ inr (inl (s.0, ap (λ v. w ∷ v) s.1 ∙ ap (λ v. v ∷ (p ++ x ∷ s.0)) (sym heads)))
        | inr (inr s) ↦ inr (inr (s.0, ap (λ v. z ∷ v) s.1 ∙ ap (λ v. v ∷ (q ++ y ∷ s.0)) heads))
      ]

module _ {K V : Type 0} where
  -- the events before a fault have none
  no_fault_before : (eq : K → K → Bool) (p r : List (Event K V)) (e : Event K V) (cause : Cause) → IsLegal eq (p ++ e ∷ r) → first_cause eq p e ≡ Some cause → ⊥
  no_fault_before eq p r e cause legal found = let none = no_cause eq p e (legal p r e refl) in cc

  one_fault : (eq : K → K → Bool) (h : List (Event K V)) (i j : ℕ) (c d : Cause) → IsFirstFault eq h i c → IsFirstFault eq h j d → Illegal i c ≡ Illegal j d
  one_fault eq h i j c d f g =
      elim (parted f.before f.after g.before g.after f.event g.event (sym f.stands ∙ g.stands)) [
        | inl s ↦
            let index : i ≡ j = f.counted ∙ ap (λ z. length z + 1) s.0 ∙ sym g.counted in
            let found : first_cause eq g.before g.event ≡ Some c =
            subst (λ z. first_cause eq z g.event ≡ Some c) s.0 (subst (λ (z : Event K V). first_cause eq f.before z ≡ Some c) s.1 f.found) in
            let cause : c ≡ d = let other = g.found in cc in
            ap (λ n. Illegal n c) index ∙ ap (λ z. Illegal j z) cause
        | inr (inl s) ↦ absurd (no_fault_before eq f.before s.0 f.event c (subst (IsLegal eq) s.1 g.legal) f.found)
        | inr (inr s) ↦ absurd (no_fault_before eq g.before s.0 g.event d (subst (IsLegal eq) s.1 f.legal) g.found)
      ]

-- for any keys and values
pub one_verdict : (K V : Type 0) (eq : K → K → Bool) → HasOneVerdict K V eq
one_verdict K V eq h Legal Legal is are = refl
one_verdict K V eq h Legal (Illegal j d) is are = absurd (fault_illegal eq h j d are is)
one_verdict K V eq h (Illegal i c) Legal is are = absurd (fault_illegal eq h i c is are)
one_verdict K V eq h (Illegal i c) (Illegal j d) is are = one_fault eq h i j c d is are
