-- the words of the table: where each lies, and the number that a world has there
use Rattle.std.specs.Prelude.{◌≡◌, ◌≢◌, ℕ, ◌+◌, ◌*◌, ◌≤◌, ◌==◌, Bool, false, List, [], ◌∷◌, ◌⊎◌, Option, if◌then◌else◌}
use Rattle.sf_words.specs.KeyWord.{IsKeyState, key_code}
use Rattle.sf_words.specs.CallWord.{IsCallState, call_code}
use Rattle.sf_words.specs.NextWord.{IsCallerOrNone, next_code}
use Rattle.sf_words.specs.declared.key_word.KeyState.{KeyState}
use Rattle.sf_words.specs.declared.key_word.KeyState.TheVariants.{Never, Names}
use Rattle.sf_words.specs.declared.call_word.CallState.{CallState}
use Rattle.sf_steps_laws.specs.World.{World}
use Rattle.sf_steps_laws.specs.Stages.{field_of, top_in}
use Rattle.sf_group_rows.specs.declared.sizes.Sizes.{Sizes}

pub data Word : Type 0 where
  key : ℕ → Word
  call : ℕ → Word
  next : ℕ → Word

-- a caller's two words have a line of 128 bytes for themselves, and nobody has line 0; then come the key words, close together
abbrev pub index : Sizes → Word → ℕ
index z (key k) = (z.callers + 1) * 16 + k
index z (call a) = a * 16
index z (next a) = a * 16 + 1

abbrev pub IsWord : Sizes → Word → Type 0
IsWord z (key k) = (1 ≤ k) × (k ≤ z.places)
IsWord z (call a) = (1 ≤ a) × (a ≤ z.callers)
IsWord z (next a) = (1 ≤ a) × (a ≤ z.callers)

abbrev pub words_in : Sizes → ℕ
words_in z = (z.callers + 1) * 16 + z.places + 1

abbrev pub same_word : Word → Word → Bool
same_word (key k) (key j) = k == j
same_word (key k) (call b) = false
same_word (key k) (next b) = false
same_word (call a) (key j) = false
same_word (call a) (call b) = a == b
same_word (call a) (next b) = false
same_word (next a) (key j) = false
same_word (next a) (call b) = false
same_word (next a) (next b) = a == b

abbrev pub HasWord : List Word → Word → Type 0
HasWord [] x = ⊥
HasWord (y ∷ ys) x = (y ≡ x) ⊎ HasWord ys x

-- the word is not one of the caller's own
abbrev pub IsOthers : ℕ → Word → Type 0
IsOthers a (key k) = Unit {0}
IsOthers a (call b) = b ≢ a
IsOthers a (next b) = b ≢ a

-- what words of a group of so many callers say
abbrev pub key_caller : KeyState → ℕ
key_caller Never = 0
key_caller (Names caller generation cleared) = caller

abbrev pub IsKeyFor : ℕ → KeyState → Type 0
IsKeyFor callers s = IsKeyState s × (key_caller s ≤ callers)

abbrev pub IsCallFor : ℕ → CallState → Type 0
IsCallFor callers s = IsCallState s × (top_in s ≤ callers)

abbrev pub IsNextFor : ℕ → Option ℕ → Type 0
IsNextFor callers n = IsCallerOrNone n × (field_of n ≤ callers)

module _ {V : Type 0} where
  -- the number that the world has in the word
  abbrev pub code_at : World V → Word → ℕ
  code_at w (key k) = key_code (w.keys k)
  code_at w (call a) = call_code (w.calls a)
  code_at w (next a) = next_code (w.nexts a)

  -- the words say what words can say
  pub record AreLawful (callers : ℕ) (w : World V) : Type 0 where
    pub keys : (k : ℕ) → IsKeyFor callers (w.keys k)
    pub calls : (a : ℕ) → IsCallFor callers (w.calls a)
    pub nexts : (a : ℕ) → IsNextFor callers (w.nexts a)

  -- the world u is w with the number n in the word x
  pub record Writes (callers : ℕ) (w u : World V) (x : Word) (n : ℕ) : Type 0 where
    pub codes : (y : Word) → code_at u y ≡ (if same_word y x then n else code_at w y)
    pub lawful : AreLawful callers w → AreLawful callers u
