-- Next words as numbers: the number is lawful, and determines what the word says.
use Rattle.std.specs.Prelude.{◌≡◌, ℕ, zero, suc, ◌≤◌, Option, Some, None, refl}
use Rattle.std.proofs.Common.{arith, ap, sym, ◌∙◌}
use Rattle.sf_words.specs.NextWord.{IsCallerOrNone, IsNextWord, NextCodesDiffer, next_code}

-- what a caller field says
abbrev pub next_of : ℕ → Option ℕ
next_of zero = None
next_of (suc n) = Some (suc n)

pub next_of-next_code : (next : Option ℕ) → IsCallerOrNone next → next_of (next_code next) ≡ next
next_of-next_code None is = refl
next_of-next_code (Some zero) is = let none : 1 ≤ 0 = is.0 in absurd (omega arith)
next_of-next_code (Some (suc n)) is = refl

pub next_code-lawful : (next : Option ℕ) → IsCallerOrNone next → IsNextWord (next_code next)
next_code-lawful None is = omega arith
next_code-lawful (Some n) is = is.1

pub next_code_one : NextCodesDiffer
next_code_one x y of_x of_y same = sym (next_of-next_code x of_x) ∙ ap next_of same ∙ next_of-next_code y of_y
