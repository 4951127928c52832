-- callers that were refused as busy before they were answered: for the forms above that try again
use Rattle.std.proofs.Common.{◌≡◌, ◌≤◌, ◌⊎◌, inl, inr, ap, ◌∙◌, subst, arith}
use Rattle.sf_group_rows.specs.declared.limits.TheConstants.{GREATEST_GENERATION}
use Rattle.sf_group_rows.specs.Tokens.{CallerValue}
use Rattle.sf_group_rows.specs.Seen.{next_of}
use Rattle.sf_group_rows.specs.Same.{IsUnspent, IsSpent, HasNothing, IsStill}
use Rattle.sf_group_rows.specs.Begins.{IsRefusedSpent, AreRefusedSpent}
use Rattle.sf_group_rows.proofs.AddsAgain.{same_caller, still_after, nothing_after}

module _ {V : Type 0} where
  -- the generation is the one from the start
  pub same_next : (c d : CallerValue V) → IsStill c d → next_of d.group d.number d.seen ≡ next_of c.group c.number c.seen
  same_next c d s = let next = s.grows.next in
      ap (λ (x : CallerValue V). next_of x.group x.number x.seen) (same_caller c d s.group s.number) ∙ omega (arith, next)

  pub unspent_before : (c d : CallerValue V) → IsStill c d → IsUnspent d → IsUnspent c
  unspent_before c d s u = subst (λ n. n ≤ GREATEST_GENERATION) (same_next c d s) u

  is_not_both : (c d : CallerValue V) → IsStill c d → IsUnspent c → IsSpent d → ⊥
  is_not_both c d s u spent = let m = same_next c d s in omega (arith, u, spent, m)

  -- one more refusal as busy
  pub busy_before : (c d e : CallerValue V) → IsStill c d → IsUnspent d → HasNothing d e → IsStill c e × ((e ≡ c) ⊎ IsUnspent c)
  busy_before c d e s u n = (still_after c d e s n, inr (unspent_before c d s u))

  -- who is spent was never refused as busy
  pub spent_before : (c d b : CallerValue V) → IsStill c d → (d ≡ c) ⊎ IsUnspent c → IsRefusedSpent d b → IsRefusedSpent c b
  spent_before c d b s (inl e) r = record { spent = subst (λ (x : CallerValue V). IsSpent x) e r.spent; same = r.same ∙ e; nothing = nothing_after c d b s r.nothing }
  spent_before c d b s (inr u) r = absurd (is_not_both c d s u r.spent)

  -- the same of two callers
  pub chan_busy_before : (a b c d e f : CallerValue V) → IsStill a c → IsStill b d → IsUnspent c → IsUnspent d → HasNothing c e → HasNothing d f
      → IsStill a e × IsStill b f × (((e ≡ a) × (f ≡ b)) ⊎ (IsUnspent a × IsUnspent b))
  chan_busy_before a b c d e f s t u v n m = (still_after a c e s n, still_after b d f t m, inr (unspent_before a c s u, unspent_before b d t v))

  pub chan_spent_before : (a b c d e f : CallerValue V) → IsStill a c → IsStill b d → ((c ≡ a) × (d ≡ b)) ⊎ (IsUnspent a × IsUnspent b) → AreRefusedSpent c d e f → AreRefusedSpent a b e f
  chan_spent_before a b c d e f s t before r = of before r.spent
    where
      back : (c ≡ a) × (d ≡ b) → IsSpent a ⊎ IsSpent b → AreRefusedSpent a b e f
      back same spent = record { spent = spent; same = r.same ∙ same.0; second_same = r.second_same ∙ same.1; nothing = nothing_after a c e s r.nothing; second_nothing = nothing_after b d f t r.second_nothing }

      of : ((c ≡ a) × (d ≡ b)) ⊎ (IsUnspent a × IsUnspent b) → IsSpent c ⊎ IsSpent d → AreRefusedSpent a b e f
      of (inl same) (inl x) = back same (inl (subst (λ (y : CallerValue V). IsSpent y) same.0 x))
      of (inl same) (inr x) = back same (inr (subst (λ (y : CallerValue V). IsSpent y) same.1 x))
      of (inr u) (inl x) = absurd (is_not_both a c s u.0 x)
      of (inr u) (inr x) = absurd (is_not_both b d t u.1 x)
