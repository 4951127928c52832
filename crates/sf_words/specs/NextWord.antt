-- Next words: one a caller, with the member that comes after it in a joiner list. And caller fields, of which such a
-- word is one.
use Rattle.std.specs.Prelude.{◌≡◌, ℕ, ◌≤◌, Option, Some, None}
use Rattle.sf_words.specs.declared.limits.TheConstants.{LARGEST_CALLER}

abbrev pub IsCallerNumber : ℕ → Type 0
IsCallerNumber n = (1 ≤ n) × (n ≤ LARGEST_CALLER)

-- a caller, or none
abbrev pub IsCallerOrNone : Option ℕ → Type 0
IsCallerOrNone None = Unit {0}
IsCallerOrNone (Some n) = IsCallerNumber n

-- a lawful next word is a caller field, with all other bits zero
abbrev pub IsNextWord : ℕ → Type 0
IsNextWord w = w ≤ LARGEST_CALLER

-- a caller field: the caller's number, or 0 for none. It is the number that a next word is packed into
abbrev pub next_code : Option ℕ → ℕ
next_code None = 0
next_code (Some n) = n

-- two next words with the same number are the same
abbrev pub NextCodesDiffer : Type 0
NextCodesDiffer = (x y : Option ℕ) → IsCallerOrNone x → IsCallerOrNone y → next_code x ≡ next_code y → x ≡ y
