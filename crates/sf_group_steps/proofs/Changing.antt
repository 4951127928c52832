-- counting the turns of others that changed a word
use Rattle.std.proofs.Common.{◌≡◌, ◌≢◌, ℕ, ◌+◌, ◌≤◌, Bool, true, false, ◌==◌, ◌&&◌, ◌||◌, not, ne_eqb, List, [], ◌∷◌, ◌++◌, inl, inr, refl, sym, ◌∙◌, ap, subst, append_assoc, arith}
use Rattle.std.specs.Prelude.{cond, if◌then◌else◌}
use Rattle.std.proofs.lemmas.Bool.{eqb-true}
use Rattle.sf_steps_laws.specs.declared.turn.Turn.{Turn}
use Rattle.sf_steps_laws.specs.declared.turn.Turn.TheVariants as turn
use Rattle.sf_steps_laws.specs.declared.operation.Op.TheVariants as op
use Rattle.sf_steps_laws.specs.World.{World}
use Rattle.sf_steps_laws.specs.Turns.{turned, run}
use Rattle.sf_group_steps.specs.Words.{Word, HasWord, code_at}
use Rattle.sf_steps_laws.specs.Named.{Names, Spares}
use Rattle.sf_group_steps.specs.Changes.{is_by, changes_some, changes, tries_by, tried}

pub has_word_left : (xs ys : List Word) (x : Word) → HasWord xs x → HasWord (xs ++ ys) x
has_word_left [] ys x has = absurd has
has_word_left (y ∷ xs) ys x (inl e) = inl e
has_word_left (y ∷ xs) ys x (inr h) = inr (has_word_left xs ys x h)

pub has_word_right : (xs ys : List Word) (x : Word) → HasWord ys x → HasWord (xs ++ ys) x
has_word_right [] ys x has = has
has_word_right (y ∷ xs) ys x has = inr (has_word_right xs ys x has)

module _ {V : Type 0} where
  pub tried_append : (a : ℕ) (w : World V) (ts us : List (Turn V)) → tried a w (ts ++ us) ≡ tried a w ts ++ tried a (run w ts) us
  tried_append a w [] us = refl
  tried_append a w (t ∷ ts) us = ap (λ xs. tries_by a w t ++ xs) (tried_append a (turned w t) ts us) ∙ sym (append_assoc (tries_by a w t) (tried a (turned w t) ts) (tried a (run (turned w t) ts) us))

  pub tried_right : (a : ℕ) (w : World V) (ts us : List (Turn V)) (x : Word) → HasWord (tried a (run w ts) us) x → HasWord (tried a w (ts ++ us)) x
  tried_right a w ts us x has = subst (λ xs. HasWord xs x) (sym (tried_append a w ts us)) (has_word_right (tried a w ts) (tried a (run w ts) us) x has)

  pub tried_left : (a : ℕ) (w : World V) (ts us : List (Turn V)) (x : Word) → HasWord (tried a w ts) x → HasWord (tried a w (ts ++ us)) x
  tried_left a w ts us x has = subst (λ xs. HasWord xs x) (sym (tried_append a w ts us)) (has_word_left (tried a w ts) (tried a (run w ts) us) x has)

  pub changes_append : (a : ℕ) (xs : List Word) (w : World V) (ts us : List (Turn V)) → changes a xs w (ts ++ us) ≡ changes a xs w ts + changes a xs (run w ts) us
  changes_append a xs w [] us = omega arith
  changes_append a xs w (t ∷ ts) us = let more = changes_append a xs (turned w t) ts us in omega (arith, more)

  pub other : (t : Turn V) (a : ℕ) → (Names t a → ⊥) → is_by a t ≡ false
  other (turn.Start b (op.Ask k)) a spares = ne_eqb b a spares
  other (turn.Start b (op.Chan second k)) a spares = ne_eqb b a (λ e. spares (inl e))
  other (turn.Start b (op.Settle v)) a spares = ne_eqb b a spares
  other (turn.Start b (op.Forget k)) a spares = ne_eqb b a spares
  other (turn.Start b (op.ForgetCall k c)) a spares = ne_eqb b a spares
  other (turn.Start b (op.Named k)) a spares = ne_eqb b a spares
  other (turn.Start b op.Poll) a spares = ne_eqb b a spares
  other (turn.Start b (op.Current k c)) a spares = ne_eqb b a spares
  other (turn.Step b) a spares = ne_eqb b a spares
  other (turn.Leave b) a spares = ne_eqb b a spares

  pub some_changed : (w : World V) (t : Turn V) (xs : List Word) (x : Word) → HasWord xs x → (code_at (turned w t) x == code_at w x) ≡ false → changes_some w t xs ≡ true
  some_changed w t [] x has is = absurd has
  some_changed w t (y ∷ ys) x (inl here) is = subst (λ (q : Word). (not (code_at (turned w t) q == code_at w q) || changes_some w t ys) ≡ true) (sym here) (ap (λ b. not b || changes_some w t ys) is)
  some_changed w t (y ∷ ys) x (inr there) is = or_true (not (code_at (turned w t) y == code_at w y)) (changes_some w t ys) (some_changed w t ys x there is)
    where
      or_true : (b c : Bool) → c ≡ true → (b || c) ≡ true
      or_true true c is = refl
      or_true false c is = is

  -- where a word is another after turns of others, one of them changed it
  pub changed_once : (a : ℕ) (xs : List Word) (x : Word) (ts : List (Turn V)) (w : World V) → Spares ts a → HasWord xs x → code_at (run w ts) x ≢ code_at w x → 1 ≤ changes a xs w ts
  changed_once a xs x [] w spares has isnt = absurd (isnt refl)
  changed_once a xs x (t ∷ ts) w spares has isnt = at (λ n. changed_once a xs x ts (turned w t) spares.1 has n) (code_at (turned w t) x == code_at w x) refl
    where
      at : (code_at (run (turned w t) ts) x ≢ code_at (turned w t) x → 1 ≤ changes a xs (turned w t) ts) → (b : Bool) → (code_at (turned w t) x == code_at w x) ≡ b → 1 ≤ changes a xs w (t ∷ ts)
      at later true is =
          let same : code_at (turned w t) x ≡ code_at w x = eqb-true (code_at (turned w t) x) (code_at w x) is in
          let rest = later (λ e. isnt (e ∙ same)) in
          omega (arith, rest)
      at later false is =
          let one : ◌≡◌ {A = ℕ} (if not (is_by a t) && changes_some w t xs then 1 else 0) 1 =
          ap (λ b. cond {A = ℕ} (not b && changes_some w t xs) 1 0) (other t a spares.0) ∙ ap (λ b. cond {A = ℕ} b 1 0) (some_changed w t xs x has is) in
          omega (arith, one)
