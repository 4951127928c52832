-- Call words: one a caller, with what its last asking came to.
use Rattle.std.specs.Prelude.{◌≡◌, ℕ, ◌+◌, ◌*◌, ◌/◌, ◌%◌, ◌≤◌, ◌⊎◌, if◌then◌else◌}
use Rattle.sf_words.specs.NextWord.{IsCallerOrNone, next_code}
use Rattle.sf_words.specs.declared.call_word.LeaderState.{LeaderState}
use Rattle.sf_words.specs.declared.call_word.CallState.{CallState}
use Rattle.sf_words.specs.declared.call_word.CallState.TheVariants.{Free, Open, Forgot, Done, Listed, Full}
use Rattle.sf_words.specs.declared.limits.TheConstants.{LARGEST_CALLER, LARGEST_GENERATION}

-- bits 63 to 32, 31 to 28, 27, 26 to 20, and 19 to 0
pub record Fields : Type 0 where
  pub generation : ℕ
  pub tag : ℕ
  pub own : ℕ
  pub zero : ℕ
  pub top : ℕ

abbrev pub fields_of : ℕ → Fields
fields_of w = record {
  generation = w / 4294967296;
  tag = w / 268435456 % 16;
  own = w / 134217728 % 2;
  zero = w / 1048576 % 128;
  top = w % 1048576;
}

-- the fields of the word of a caller that has asked
pub record IsUsed (f : Fields) : Type 0 where
  pub generation : 1 ≤ f.generation
  pub tag : (1 ≤ f.tag) × (f.tag ≤ 5)
  pub zero : f.zero ≡ 0
  pub top : f.top ≤ LARGEST_CALLER
  pub bare : 4 ≤ f.tag → (f.own ≡ 0) × (f.top ≡ 0)

-- a lawful call word: the whole word 0, or that of a caller that has asked
abbrev pub IsCallWord : ℕ → Type 0
IsCallWord w = (w ≡ 0) ⊎ IsUsed (fields_of w)

abbrev pub IsGeneration : ℕ → Type 0
IsGeneration g = (1 ≤ g) × (g ≤ LARGEST_GENERATION)

abbrev pub IsLeaderState : LeaderState → Type 0
IsLeaderState s = IsGeneration s.generation × IsCallerOrNone s.top

-- the states that a call word says: generation and top are in their ranges
abbrev pub IsCallState : CallState → Type 0
IsCallState Free = Unit {0}
IsCallState (Open s) = IsLeaderState s
IsCallState (Forgot s) = IsLeaderState s
IsCallState (Done s) = IsLeaderState s
IsCallState (Listed generation) = IsGeneration generation
IsCallState (Full generation) = IsGeneration generation

abbrev pub leader_fields : ℕ → LeaderState → Fields
leader_fields tag s = record {
  generation = s.generation;
  tag = tag;
  own = if s.own then 1 else 0;
  zero = 0;
  top = next_code s.top;
}

abbrev pub bare_fields : ℕ → ℕ → Fields
bare_fields generation tag = record { generation = generation; tag = tag; own = 0; zero = 0; top = 0 }

-- the fields that stand for a state
abbrev pub call_fields : CallState → Fields
call_fields Free = bare_fields 0 0
call_fields (Open s) = leader_fields 1 s
call_fields (Forgot s) = leader_fields 2 s
call_fields (Done s) = leader_fields 3 s
call_fields (Listed generation) = bare_fields generation 4
call_fields (Full generation) = bare_fields generation 5

abbrev pub code_of : Fields → ℕ
code_of f = f.generation * 4294967296 + f.tag * 268435456 + f.own * 134217728 + f.zero * 1048576 + f.top

-- the number that a state is packed into
abbrev pub call_code : CallState → ℕ
call_code state = code_of (call_fields state)

-- two call words with the same number say the same
abbrev pub CallCodesDiffer : Type 0
CallCodesDiffer = (x y : CallState) → IsCallState x → IsCallState y → call_code x ≡ call_code y → x ≡ y
