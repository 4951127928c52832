-- functions of numbers
use Rattle.std.specs.Prelude.{ℕ, nat_eq, cond}

-- a function changed at one number
abbrev pub put : {A : Type 0} → (ℕ → A) → ℕ → A → ℕ → A
put f i v j = cond (nat_eq j i) v (f j)
