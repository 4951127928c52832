-- the keys of a drive, by their numbers
use Rattle.std.proofs.Common.{◌≡◌, ℕ, zero, suc, ◌+◌, ◌<◌, List, [], ◌∷◌, ◌++◌, length, get_or, sym, ap, ◌∙◌, subst, length-append, arith}
use Rattle.sf_cli_drive.specs.declared.jobs.Entry.{Entry}
use Rattle.sf_cli_drive.specs.Jobs.{IsEntryOf, AreNumbered, AreEntries}

-- one more key
pub numbered_push : (n : ℕ) (es : List Entry) (e : Entry) → AreNumbered n es → IsEntryOf (n + length es) e → AreNumbered n (es ++ e ∷ [])
numbered_push n [] e h last = (subst (λ (i : ℕ). IsEntryOf i e) (omega arith) last, tt)
numbered_push n (x ∷ es) e h last = (h.0, numbered_push (suc n) es e h.1 (subst (λ (i : ℕ). IsEntryOf i e) (omega arith) last))

pub entries_push : (n : ℕ) (es more : List Entry) (e : Entry) → AreEntries n es → more ≡ es ++ e ∷ [] → IsEntryOf n e → AreEntries (n + 1) more
entries_push n es more e h is last = subst (λ (xs : List Entry). AreEntries (n + 1) xs) (sym is) (
  length-append es (e ∷ []) ∙ ap (λ i. i + 1) h.0,
  numbered_push 0 es e h.1 (subst (λ (i : ℕ). IsEntryOf i e) (omega (arith, h.0)) last),
)

-- the key at a place
pub numbered_at : (n : ℕ) (es : List Entry) (i : ℕ) (d : Entry) → AreNumbered n es → i < length es → IsEntryOf (n + i) (get_or es i d)
numbered_at n [] i d h below = let no : ⊥ = omega (arith, below) in absurd no
numbered_at n (x ∷ es) zero d h below = subst (λ (j : ℕ). IsEntryOf j x) (omega arith) h.0
numbered_at n (x ∷ es) (suc i) d h below = subst (λ (j : ℕ). IsEntryOf j (get_or es i d)) (omega arith) (numbered_at (suc n) es i d h.1 (omega (arith, below)))

pub entry_at : (es : List Entry) (i : ℕ) (d : Entry) → AreNumbered 0 es → i < length es → IsEntryOf i (get_or es i d)
entry_at es i d all below = subst (λ (j : ℕ). IsEntryOf j (get_or es i d)) (omega arith) (numbered_at 0 es i d all below)
