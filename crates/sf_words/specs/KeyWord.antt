-- Key words: one a place, with the call that was led last on the place's key.
use Rattle.std.specs.Prelude.{◌≡◌, ℕ, ◌+◌, ◌*◌, ◌/◌, ◌%◌, ◌≤◌, ◌⊎◌, if◌then◌else◌}
use Rattle.sf_words.specs.NextWord.{IsCallerNumber}
use Rattle.sf_words.specs.CallWord.{IsGeneration}
use Rattle.sf_words.specs.declared.key_word.KeyState.{KeyState}
use Rattle.sf_words.specs.declared.key_word.KeyState.TheVariants.{Never, Names}

-- bits 63 to 32, 31, 30 to 20, and 19 to 0
pub record Fields : Type 0 where
  pub generation : ℕ
  pub cleared : ℕ
  pub zero : ℕ
  pub caller : ℕ

abbrev pub fields_of : ℕ → Fields
fields_of w = record {
  generation = w / 4294967296;
  cleared = w / 2147483648 % 2;
  zero = w / 1048576 % 2048;
  caller = w % 1048576;
}

-- the fields of a word that names a call
pub record IsNaming (f : Fields) : Type 0 where
  pub generation : 1 ≤ f.generation
  pub zero : f.zero ≡ 0
  pub caller : IsCallerNumber f.caller

-- a lawful key word: the whole word 0, or one that names a call
abbrev pub IsKeyWord : ℕ → Type 0
IsKeyWord w = (w ≡ 0) ⊎ IsNaming (fields_of w)

-- the states that a key word says: caller and generation are in their ranges
abbrev pub IsKeyState : KeyState → Type 0
IsKeyState Never = Unit {0}
IsKeyState (Names caller generation cleared) = IsCallerNumber caller × IsGeneration generation

-- the fields that stand for a state
abbrev pub key_fields : KeyState → Fields
key_fields Never = record { generation = 0; cleared = 0; zero = 0; caller = 0 }
key_fields (Names caller generation cleared) =
    record { generation = generation; cleared = if cleared then 1 else 0; zero = 0; caller = caller }

abbrev pub code_of : Fields → ℕ
code_of f = f.generation * 4294967296 + f.cleared * 2147483648 + f.zero * 1048576 + f.caller

-- the number that a state is packed into
abbrev pub key_code : KeyState → ℕ
key_code state = code_of (key_fields state)

-- two key words with the same number say the same
abbrev pub KeyCodesDiffer : Type 0
KeyCodesDiffer = (x y : KeyState) → IsKeyState x → IsKeyState y → key_code x ≡ key_code y → x ≡ y
