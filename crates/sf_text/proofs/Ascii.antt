-- words that are numbers, calls or tokens are ASCII, and so is a line of such words
use Rattle.std.proofs.Common.{◌≡◌, ℕ, ◌^◌, ◌<◌, ◌==◌, Bool, true, false, List, [], ◌∷◌, get_or, refl, sym, subst, arith}
use Rattle.std.proofs.lemmas.Bool.{eqb-true}
use Rattle.std.proofs.lemmas.Fmt.{IsAscii-decimal}
use Rattle.std.proofs.lemmas.List.Elements.{All-append, All-cons, All-from_recursion, recursion_from_All}
use Rattle.std.proofs.lemmas.List.Sums.{split_at_first, passes_at_first}
use Rattle.std.proofs.lemmas.Str.Ascii.{All-from_ascii}
use Rattle.std.specs.Prelude.{All, cond, decimal}
use Rattle.std.specs.List.{AllByRecursion, slice_split, onto_first, position_or_len, after_first}
use Rattle.sf_history.specs.declared.call.CallId.{CallId}
use Rattle.sf_text.specs.Words.{IsToken, IsNumber, IsCallerWord, IsCallWord}
use Rattle.sf_words.specs.declared.limits.TheConstants.{LARGEST_CALLER, LARGEST_GENERATION}

abbrev pub AreAscii : List ℕ → Type 0
AreAscii bs = AllByRecursion (λ b. b < 128) bs

-- a list whose parts are ASCII is ASCII
pub ascii_from_parts : (bs : List ℕ) → AllByRecursion AreAscii (slice_split (λ b. b == 32) bs) → AreAscii bs
ascii_from_parts [] parts = tt
ascii_from_parts (x ∷ bs) parts = let both = at (x == 32) refl (slice_split (λ b. b == 32) bs) parts in (both.0, ascii_from_parts bs both.1)
  where
    at : (b : Bool) → (x == 32) ≡ b → (rest : List (List ℕ)) → AllByRecursion AreAscii (cond b ([] ∷ rest) (onto_first x rest)) → (x < 128) × AllByRecursion AreAscii rest
    at true is rest all = let space : x ≡ 32 = eqb-true x 32 is in (omega arith, all.1)
    at false is [] all = (all.0.0, tt)
    at false is (part ∷ rest) all = (all.0.0, (all.0.1, all.1))

-- tokens and numbers are ASCII
pub token_ascii : (w : List ℕ) → IsToken w → AreAscii w
token_ascii w token = recursion_from_All (λ b. b < 128) w (λ k d within. let printable = token.2 k d within in omega arith)

pub number_ascii : (greatest : ℕ) (w : List ℕ) (n : ℕ) → greatest < 2 ^ 32 → IsNumber greatest w n → AreAscii w
number_ascii greatest w n small is =
    let range = is.1 in
    let fits : n < 2 ^ 64 = omega arith in
    subst AreAscii (sym is.2) (recursion_from_All (λ b. b < 128) (decimal n) (All-from_ascii (decimal n) (IsAscii-decimal n fits)))

pub caller_ascii : (w : List ℕ) (a : ℕ) → IsCallerWord w a → AreAscii w
caller_ascii w a is = number_ascii LARGEST_CALLER w a (omega arith) is

pub call_ascii : (w : List ℕ) (c : CallId) → IsCallWord w c → AreAscii w
call_ascii w c is =
    let before = caller_ascii _ c.caller is.caller in
    let after = number_ascii LARGEST_GENERATION _ c.generation (omega arith) is.generation in
    let dot : get_or w (position_or_len (λ b. b == 46) w) 0 ≡ 46 = eqb-true _ _ (passes_at_first (λ b. b == 46) w 0 is.dotted) in
    let whole = split_at_first (λ b. b == 46) w 0 is.dotted in
    let rest : All (λ b. b < 128) (get_or w (position_or_len (λ b. b == 46) w) 0 ∷ after_first (λ b. b == 46) w) =
    All-cons (λ b. b < 128) _ _ (omega arith) (All-from_recursion (λ b. b < 128) _ after) in
    recursion_from_All (λ b. b < 128) w
    (subst (All (λ b. b < 128)) (sym whole) (All-append (λ b. b < 128) _ _ (All-from_recursion (λ b. b < 128) _ before) rest))
