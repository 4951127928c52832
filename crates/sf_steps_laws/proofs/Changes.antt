-- words that differ were changed
use Rattle.std.proofs.Common.{◌≡◌, ◌≤◌, ◌+◌, ℕ, Bool, true, false, [], ◌∷◌, refl, sym, ◌∙◌, ap, subst, arith}
use Rattle.std.proofs.lemmas.Bool.{true≢false}
use Rattle.std.specs.Prelude.{cond, ◌&&◌, not}
use Rattle.sf_words.specs.declared.key_word.KeyState.{KeyState}
use Rattle.sf_steps_laws.specs.World.{same_key, is_open_with}
use Rattle.sf_steps_laws.specs.Turns.{turned, run}
use Rattle.sf_steps_laws.specs.Changed.{key_changes, word_changes, KeysChange, WordsChange}
use Rattle.sf_steps_laws.proofs.Compared.{same_key_is, same_key_self}

module _ {V : Type 0} where
  pub keys_change : KeysChange V
  keys_change w k [] differs = absurd (true≢false (sym (same_key_self (w.keys k)) ∙ differs))
  keys_change w k (t ∷ ts) differs = at (λ later. keys_change (turned w t) k ts later) (same_key ((turned w t).keys k) (w.keys k)) refl
    where
      at : (same_key ((run (turned w t) ts).keys k) ((turned w t).keys k) ≡ false → 1 ≤ key_changes (turned w t) k ts) → (b : Bool) → same_key ((turned w t).keys k) (w.keys k) ≡ b → 1 ≤ cond {A = ℕ} b 0 1 + key_changes (turned w t) k ts
      at rest true same =
          let alike : (turned w t).keys k ≡ w.keys k = same_key_is ((turned w t).keys k) (w.keys k) same in
          let later : 1 ≤ key_changes (turned w t) k ts = rest (subst (λ (v : KeyState). same_key ((run (turned w t) ts).keys k) v ≡ false) (sym alike) differs) in
          omega arith
      at rest false same = omega arith

  pub words_change : WordsChange V
  words_change w seen l [] was isnt = absurd (true≢false (sym was ∙ isnt))
  words_change w seen l (t ∷ ts) was isnt = at (λ still. words_change (turned w t) seen l ts still isnt) (is_open_with seen ((turned w t).calls l)) refl
    where
      at : (is_open_with seen ((turned w t).calls l) ≡ true → 1 ≤ word_changes (turned w t) seen l ts) → (b : Bool) → is_open_with seen ((turned w t).calls l) ≡ b
          → 1 ≤ cond {A = ℕ} (is_open_with seen (w.calls l) && not b) 1 0 + word_changes (turned w t) seen l ts
      at rest true still = let later : 1 ≤ word_changes (turned w t) seen l ts = rest still in omega (arith, later)
      at rest false gone = let one : cond {A = ℕ} (is_open_with seen (w.calls l) && not false) 1 0 ≡ 1 = ap (λ (x : Bool). cond {A = ℕ} (x && not false) 1 0) was in omega (arith, one)
