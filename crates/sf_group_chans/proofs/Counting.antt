-- counting the turns of others than two that changed a word
use Rattle.std.proofs.Common.{◌≡◌, ◌≢◌, ℕ, ◌+◌, ◌≤◌, Bool, true, false, ◌==◌, ◌&&◌, ◌||◌, not, List, [], ◌∷◌, ◌++◌, refl, ◌∙◌, ap, arith}
use Rattle.std.specs.Prelude.{cond, if◌then◌else◌}
use Rattle.std.proofs.lemmas.Bool.{eqb-true}
use Rattle.sf_steps_laws.specs.declared.turn.Turn.{Turn}
use Rattle.sf_steps_laws.specs.World.{World}
use Rattle.sf_steps_laws.specs.Turns.{turned, run}
use Rattle.sf_steps_laws.specs.Named.{Spares}
use Rattle.sf_group_steps.specs.Words.{Word, HasWord, code_at}
use Rattle.sf_group_steps.specs.Changes.{is_by, changes_some}
use Rattle.sf_group_steps.proofs.Changing.{other, some_changed}
use Rattle.sf_group_chans.specs.Changes.{changes_apart}

module _ {V : Type 0} where
  pub apart_append : (a b : ℕ) (xs : List Word) (w : World V) (ts us : List (Turn V)) → changes_apart a b xs w (ts ++ us) ≡ changes_apart a b xs w ts + changes_apart a b xs (run w ts) us
  apart_append a b xs w [] us = omega arith
  apart_append a b xs w (t ∷ ts) us = let more = apart_append a b xs (turned w t) ts us in omega (arith, more)

  -- where a word is another after turns of others, one of them changed it
  pub apart_once : (a b : ℕ) (xs : List Word) (x : Word) (ts : List (Turn V)) (w : World V) → Spares ts a → Spares ts b → HasWord xs x → code_at (run w ts) x ≢ code_at w x → 1 ≤ changes_apart a b xs w ts
  apart_once a b xs x [] w first second has isnt = absurd (isnt refl)
  apart_once a b xs x (t ∷ ts) w first second has isnt = at (λ n. apart_once a b xs x ts (turned w t) first.1 second.1 has n) (code_at (turned w t) x == code_at w x) refl
    where
      at : (code_at (run (turned w t) ts) x ≢ code_at (turned w t) x → 1 ≤ changes_apart a b xs (turned w t) ts) → (e : Bool) → (code_at (turned w t) x == code_at w x) ≡ e → 1 ≤ changes_apart a b xs w (t ∷ ts)
      at later true is =
          let same : code_at (turned w t) x ≡ code_at w x = eqb-true (code_at (turned w t) x) (code_at w x) is in
          let rest = later (λ e. isnt (e ∙ same)) in
          omega (arith, rest)
      at later false is =
          let neither : (is_by a t || is_by b t) ≡ false = ap (λ e. e || is_by b t) (other t a first.0) ∙ other t b second.0 in
          let one : ◌≡◌ {A = ℕ} (if not (is_by a t || is_by b t) && changes_some w t xs then 1 else 0) 1 =
          ap (λ e. cond {A = ℕ} (not e && changes_some w t xs) 1 0) neither ∙ ap (λ e. cond {A = ℕ} e 1 0) (some_changed w t xs x has is) in
          omega (arith, one)
