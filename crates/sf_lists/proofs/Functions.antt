-- functions that are changed at one number
use Rattle.std.proofs.Common.{◌≡◌, ◌≢◌, ℕ, inl, inr, refl, sym, ◌∙◌, ap, subst, cond, eq-eqb}
use Rattle.std.proofs.lemmas.Bool.{ne_eqb, cases_eq}
use Rattle.sf_lists.specs.Functions.{put}

pub put_here : {A : Type 0} (f : ℕ → A) (i : ℕ) (v : A) → put f i v i ≡ v
put_here f i v = ap (λ b. cond b v (f i)) (eq-eqb i i refl)

pub put_else : {A : Type 0} (f : ℕ → A) (i : ℕ) (v : A) (j : ℕ) → j ≢ i → put f i v j ≡ f j
put_else f i v j n = ap (λ b. cond b v (f j)) (ne_eqb j i n)

-- a value of the changed function is the new one or an old one
pub put_cases : {A : Type 0} (P : A → Type 0) (f : ℕ → A) (i : ℕ) (v : A) (j : ℕ) → (j ≡ i → P v) → (j ≢ i → P (f j)) → P (put f i v j)
put_cases P f i v j here other =
    elim (cases_eq j i) [
      | inl e ↦ subst P (sym (ap (λ (n : ℕ). put f i v n) e ∙ put_here f i v)) (here e)
      | inr n ↦ subst P (sym (put_else f i v j n)) (other n)
    ]
