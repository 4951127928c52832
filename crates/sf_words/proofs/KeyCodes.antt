-- Key words as numbers: the number is lawful, has the fields of what the word says, and determines it.
use Rattle.std.specs.Prelude.{◌≡◌, ℕ, zero, suc, ◌+◌, ◌*◌, ◌/◌, ◌%◌, ◌≤◌, ◌==◌, if◌then◌else◌, refl}
use Rattle.std.proofs.Common.{arith, ap, sym, ◌∙◌, inl, inr, subst}
use Rattle.sf_words.specs.KeyWord.{Fields, IsKeyState, IsKeyWord, IsNaming, KeyCodesDiffer, code_of, fields_of, key_code, key_fields}
use Rattle.sf_words.specs.declared.key_word.KeyState.{KeyState}
use Rattle.sf_words.specs.declared.key_word.KeyState.TheVariants.{Never, Names}
use Rattle.sf_words.proofs.Flags.{flag_bit, flag_of-bit}
use Rattle.sf_words.specs.declared.limits.TheConstants.{LARGEST_CALLER}

pub fields_of-code_of : (generation cleared caller : ℕ) → cleared ≤ 1 → caller ≤ LARGEST_CALLER
    → let f : Fields = record { generation = generation; cleared = cleared; zero = 0; caller = caller } in fields_of (code_of f) ≡ f
fields_of-code_of generation cleared caller small low =
    let at_generation : (generation * 4294967296 + cleared * 2147483648 + 0 * 1048576 + caller) / 4294967296 ≡ generation = omega arith in
    let at_cleared : (generation * 4294967296 + cleared * 2147483648 + 0 * 1048576 + caller) / 2147483648 % 2 ≡ cleared = omega arith in
    let at_zero : (generation * 4294967296 + cleared * 2147483648 + 0 * 1048576 + caller) / 1048576 % 2048 ≡ 0 = omega arith in
    let at_caller : (generation * 4294967296 + cleared * 2147483648 + 0 * 1048576 + caller) % 1048576 ≡ caller = omega arith in
    cc

-- the fields of a state's number are the state's
pub fields_of-key_code : (state : KeyState) → IsKeyState state → fields_of (key_code state) ≡ key_fields state
fields_of-key_code Never is = refl
fields_of-key_code (Names caller generation cleared) is =
    fields_of-code_of generation (if cleared then 1 else 0) caller (flag_bit cleared) is.0.1

pub key_code-lawful : (state : KeyState) → IsKeyState state → IsKeyWord (key_code state)
key_code-lawful Never is = inl refl
key_code-lawful (Names caller generation cleared) is =
    inr (subst IsNaming (sym (fields_of-key_code (Names caller generation cleared) is))
    (record { generation = is.1.0; zero = refl; caller = is.0 }))

-- what the fields of a lawful word say
abbrev pub state_of : Fields → KeyState
state_of f = named f.generation
  where
    named : ℕ → KeyState
    named zero = Never
    named (suc g) = Names f.caller (suc g) (f.cleared == 1)

pub state_of-key_fields : (state : KeyState) → IsKeyState state → state_of (key_fields state) ≡ state
state_of-key_fields Never is = refl
state_of-key_fields (Names caller zero cleared) is = let none : 1 ≤ 0 = is.1.0 in absurd (omega arith)
state_of-key_fields (Names caller (suc generation) cleared) is = ap (λ b. Names caller (suc generation) b) (flag_of-bit cleared)

pub key_code_one : KeyCodesDiffer
key_code_one x y of_x of_y same =
    let fields : key_fields x ≡ key_fields y =
    sym (fields_of-key_code x of_x) ∙ ap fields_of same ∙ fields_of-key_code y of_y in
    sym (state_of-key_fields x of_x) ∙ ap state_of fields ∙ state_of-key_fields y of_y
