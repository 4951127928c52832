-- the words of a line: numbers, callers, calls and tokens
use Rattle.std.specs.Prelude.{◌≡◌, ℕ, ◌<◌, ◌≤◌, ◌==◌, List, length, All, decimal}
use Rattle.std.specs.List.{slice_split, position_or_len, before_first, after_first}
use Rattle.sf_history.specs.declared.call.CallId.{CallId}
use Rattle.sf_words.specs.declared.limits.TheConstants.{LARGEST_CALLER, LARGEST_GENERATION}

-- words are parted by one space
abbrev pub words : List ℕ → List (List ℕ)
words line = slice_split (λ b. b == 32) line

-- the word is this number, in decimal without leading zeros, from 1 to a greatest one
abbrev pub IsNumber : ℕ → List ℕ → ℕ → Type 0
IsNumber greatest w n = (0 < n) × (n ≤ greatest) × (w ≡ decimal n)

-- callers are numbered from 1 to 65,535
abbrev pub IsCallerWord : List ℕ → ℕ → Type 0
IsCallerWord w a = IsNumber LARGEST_CALLER w a

-- keys and texts: 1 to 250 printable bytes
abbrev pub IsToken : List ℕ → Type 0
IsToken w = (0 < length w) × (length w ≤ 250) × All (λ b. (33 ≤ b) × (b ≤ 126)) w

-- a call is a caller, a dot, and a generation from 1 to 4,294,967,295
pub record IsCallWord (w : List ℕ) (c : CallId) : Type 0 where
  pub dotted : position_or_len (λ b. b == 46) w < length w
  pub caller : IsCallerWord (before_first (λ b. b == 46) w) c.caller
  pub generation : IsNumber LARGEST_GENERATION (after_first (λ b. b == 46) w) c.generation
