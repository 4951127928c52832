-- Call words as numbers: the number is lawful, has the fields of what the word says, and determines it.
use Rattle.std.specs.Prelude.{◌≡◌, ℕ, ◌+◌, ◌*◌, ◌/◌, ◌%◌, ◌≤◌, ◌==◌, if◌then◌else◌, refl}
use Rattle.std.proofs.Common.{arith, ap, sym, ◌∙◌, inl, inr, subst}
use Rattle.sf_words.specs.NextWord.{next_code}
use Rattle.sf_words.specs.CallWord.{Fields, IsGeneration, IsLeaderState, IsCallState, IsCallWord, IsUsed, CallCodesDiffer, bare_fields, leader_fields, code_of, fields_of, call_code, call_fields}
use Rattle.sf_words.specs.declared.call_word.LeaderState.{LeaderState}
use Rattle.sf_words.specs.declared.call_word.CallState.{CallState}
use Rattle.sf_words.specs.declared.call_word.CallState.TheVariants.{Free, Open, Forgot, Done, Listed, Full}
use Rattle.sf_words.proofs.NextCodes.{next_of, next_of-next_code, next_code-lawful}
use Rattle.sf_words.proofs.Flags.{flag_bit, flag_of-bit}
use Rattle.sf_words.specs.declared.limits.TheConstants.{LARGEST_CALLER}

pub fields_of-code_of : (generation tag own top : ℕ) → tag ≤ 15 → own ≤ 1 → top ≤ LARGEST_CALLER
    → let f : Fields = record { generation = generation; tag = tag; own = own; zero = 0; top = top } in fields_of (code_of f) ≡ f
fields_of-code_of generation tag own top tag_fits own_fits top_fits =
    let at_generation : (generation * 4294967296 + tag * 268435456 + own * 134217728 + 0 * 1048576 + top) / 4294967296 ≡ generation = omega arith in
    let at_tag : (generation * 4294967296 + tag * 268435456 + own * 134217728 + 0 * 1048576 + top) / 268435456 % 16 ≡ tag = omega arith in
    let at_own : (generation * 4294967296 + tag * 268435456 + own * 134217728 + 0 * 1048576 + top) / 134217728 % 2 ≡ own = omega arith in
    let at_zero : (generation * 4294967296 + tag * 268435456 + own * 134217728 + 0 * 1048576 + top) / 1048576 % 128 ≡ 0 = omega arith in
    let at_top : (generation * 4294967296 + tag * 268435456 + own * 134217728 + 0 * 1048576 + top) % 1048576 ≡ top = omega arith in
    cc

-- the fields of a leader's number are the leader's
pub fields_of-leader : (tag : ℕ) (s : LeaderState) → tag ≤ 15 → IsLeaderState s → fields_of (code_of (leader_fields tag s)) ≡ leader_fields tag s
fields_of-leader tag s fits is =
    fields_of-code_of s.generation tag (if s.own then 1 else 0) (next_code s.top) fits (flag_bit s.own) (next_code-lawful s.top is.1)

-- the fields of a state's number are the state's
pub fields_of-call_code : (state : CallState) → IsCallState state → fields_of (call_code state) ≡ call_fields state
fields_of-call_code Free is = refl
fields_of-call_code (Open s) is = fields_of-leader 1 s (omega arith) is
fields_of-call_code (Forgot s) is = fields_of-leader 2 s (omega arith) is
fields_of-call_code (Done s) is = fields_of-leader 3 s (omega arith) is
fields_of-call_code (Listed generation) is = fields_of-code_of generation 4 0 0 (omega arith) (omega arith) (omega arith)
fields_of-call_code (Full generation) is = fields_of-code_of generation 5 0 0 (omega arith) (omega arith) (omega arith)

leader_used : (tag : ℕ) (s : LeaderState) → 1 ≤ tag → tag ≤ 3 → IsLeaderState s → IsUsed (leader_fields tag s)
leader_used tag s least most is = record {
  generation = is.0.0;
  tag = (least, omega arith);
  zero = refl;
  top = next_code-lawful s.top is.1;
  bare = λ four. absurd (omega arith);
}

bare_used : (generation tag : ℕ) → 1 ≤ tag → tag ≤ 5 → IsGeneration generation → IsUsed (bare_fields generation tag)
bare_used generation tag least most is = record {
  generation = is.0;
  tag = (least, most);
  zero = refl;
  top = omega arith;
  bare = λ _. (refl, refl);
}

used : (state : CallState) → IsCallState state → IsUsed (call_fields state) → IsCallWord (call_code state)
used state is fields = inr (subst IsUsed (sym (fields_of-call_code state is)) fields)

pub call_code-lawful : (state : CallState) → IsCallState state → IsCallWord (call_code state)
call_code-lawful Free is = inl refl
call_code-lawful (Open s) is = used (Open s) is (leader_used 1 s (omega arith) (omega arith) is)
call_code-lawful (Forgot s) is = used (Forgot s) is (leader_used 2 s (omega arith) (omega arith) is)
call_code-lawful (Done s) is = used (Done s) is (leader_used 3 s (omega arith) (omega arith) is)
call_code-lawful (Listed generation) is = used (Listed generation) is (bare_used generation 4 (omega arith) (omega arith) is)
call_code-lawful (Full generation) is = used (Full generation) is (bare_used generation 5 (omega arith) (omega arith) is)

abbrev pub leader_of : Fields → LeaderState
leader_of f = record { generation = f.generation; own = f.own == 1; top = next_of f.top }

pub leader_of-leader_fields : (tag : ℕ) (s : LeaderState) → IsLeaderState s → leader_of (leader_fields tag s) ≡ s
leader_of-leader_fields tag s is =
    ap (λ own. record { generation = s.generation; own = own; top = next_of (next_code s.top) }) (flag_of-bit s.own)
    ∙ ap (λ top. record { generation = s.generation; own = s.own; top = top }) (next_of-next_code s.top is.1)

-- what the fields of a lawful word say
abbrev pub state_of : Fields → CallState
state_of f =
    if f.tag == 0 then Free else (
    if f.tag == 1 then Open (leader_of f) else (
    if f.tag == 2 then Forgot (leader_of f) else (
    if f.tag == 3 then Done (leader_of f) else (
    if f.tag == 4 then Listed f.generation else Full f.generation))))

pub state_of-call_fields : (state : CallState) → IsCallState state → state_of (call_fields state) ≡ state
state_of-call_fields Free is = refl
state_of-call_fields (Open s) is = ap Open (leader_of-leader_fields 1 s is)
state_of-call_fields (Forgot s) is = ap Forgot (leader_of-leader_fields 2 s is)
state_of-call_fields (Done s) is = ap Done (leader_of-leader_fields 3 s is)
state_of-call_fields (Listed generation) is = refl
state_of-call_fields (Full generation) is = refl

pub call_code_one : CallCodesDiffer
call_code_one x y of_x of_y same =
    let fields : call_fields x ≡ call_fields y =
    sym (fields_of-call_code x of_x) ∙ ap fields_of same ∙ fields_of-call_code y of_y in
    sym (state_of-call_fields x of_x) ∙ ap state_of fields ∙ state_of-call_fields y of_y
