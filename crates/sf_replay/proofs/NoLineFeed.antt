-- a record's text has no line feed
use Rattle.std.proofs.Common.{◌≡◌, ℕ, suc, ◌+◌, ◌^◌, ◌/◌, ◌%◌, ◌<◌, ◌==◌, ◌||◌, nat_lt, Bool, false, List, [], ◌∷◌, ◌++◌, length, get_or, Option, Some, None, Ok, Err, IfSome, decimal, All, inl, inr, refl, ◌∙◌, arith}
use Rattle.std.proofs.lemmas.Bool.{or_parts, or_from, or_cases, cond_both, eqb-true, ne_eqb, ltb-false}
use Rattle.std.proofs.lemmas.Fmt.{decimal_is_IsNumeral}
use Rattle.std.proofs.lemmas.Str.Parse.{digit_at}
use Rattle.std.proofs.lemmas.List.Elements.{All-nil, All-cons}
use Rattle.std.proofs.lemmas.List.Folds.{list_any-append}
use Rattle.std.proofs.lemmas.List.Splits.{slice_split_at}
use Rattle.std.specs.List.{list_any, slice_split}
use Rattle.std.specs.Char.{digit_char}
use Rattle.json.specs.Print.{escape_letter, escape_byte, escape, quoted}
use Rattle.sf_history.specs.declared.call.CallId.{CallId}
use Rattle.sf_history.specs.declared.event.Event.TheVariants.{Lead, Enter, Forget, ForgetCall, Settle, Handed}
use Rattle.sf_history.specs.Limits.{IsCallerNumber, IsCallWithin, IsWithinLimits}
use Rattle.sf_history.specs.declared.event.Hit.{Hit}
use Rattle.sf_history.specs.declared.event.Hit.TheVariants.{Closed, Cleared, Missed}
use Rattle.sf_history.specs.Hits.{hit_text}
use Rattle.sf_replay.specs.Record.{TextEvent}
use Rattle.sf_replay.specs.Written.{call_json, option_json, record_text, record_with, HasCount}

abbrev pub is_lf : ℕ → Bool
is_lf byte = byte == 10

-- a part without a line feed may go
skip : (xs ys : List ℕ) → list_any is_lf xs ≡ false → list_any is_lf ys ≡ false → list_any is_lf (xs ++ ys) ≡ false
skip xs ys first rest = list_any-append is_lf xs ys ∙ or_from _ _ first rest

not_ten : (n : ℕ) → 10 < n → (n == 10) ≡ false
not_ten n above = ne_eqb n 10 (λ is. omega arith)

above_ten : (ds : List ℕ) → ((i : ℕ) → i < length ds → 10 < get_or ds i 0) → list_any is_lf ds ≡ false
above_ten [] above = refl
above_ten (d ∷ ds) above = or_from _ _ (not_ten d (above 0 (omega arith))) (above_ten ds (λ i within. above (suc i) (omega arith)))

decimal_no_lf : (n : ℕ) → n < 2 ^ 64 → list_any is_lf (decimal n) ≡ false
decimal_no_lf n small = above_ten (decimal n) (λ i within. let digit = digit_at _ i (decimal_is_IsNumeral n small).0.1 within in omega arith)

letter_no_lf : (x : ℕ) → (escape_letter x == 10) ≡ false
letter_no_lf x =
    cond_both ((x == 34) || (x == 92)) _ _ (λ l. (l == 10) ≡ false)
    (λ is. elim (or_cases (x == 34) (x == 92) is) [
      | inl quote ↦ let same = eqb-true x 34 quote in not_ten x (omega arith)
      | inr backslash ↦ let same = eqb-true x 92 backslash in not_ten x (omega arith)
    ])
    (λ isnt. cond_both (x == 8) _ _ (λ l. (l == 10) ≡ false) (λ is. refl)
    (λ isnt. cond_both (x == 12) _ _ (λ l. (l == 10) ≡ false) (λ is. refl)
    (λ isnt. cond_both (x == 10) _ _ (λ l. (l == 10) ≡ false) (λ is. refl)
    (λ isnt. cond_both (x == 13) _ _ (λ l. (l == 10) ≡ false) (λ is. refl)
    (λ isnt. cond_both (x == 9) _ _ (λ l. (l == 10) ≡ false) (λ is. refl) (λ isnt. refl))))))

digit_no_lf : (d : ℕ) → (digit_char d == 10) ≡ false
digit_no_lf d = cond_both (nat_lt d 10) _ _ (λ c. (c == 10) ≡ false) (λ is. not_ten (48 + d) (omega arith)) (λ isnt. not_ten (87 + d) (omega arith))

byte_no_lf : (x : ℕ) → list_any is_lf (escape_byte x) ≡ false
unfolding escape_byte
byte_no_lf x =
    cond_both (nat_lt 0 (escape_letter x)) _ _ (λ t. list_any is_lf t ≡ false)
    (λ is. or_from _ _ (letter_no_lf x) refl)
    (λ isnt. cond_both (nat_lt x 32) _ _ (λ t. list_any is_lf t ≡ false)
    (λ is. or_from _ _ (digit_no_lf (x / 16)) (or_from _ _ (digit_no_lf (x % 16)) refl))
    (λ large. or_from _ _ (not_ten x (omega (arith, ltb-false x 32 large))) refl))

escape_no_lf : (s : List ℕ) → list_any is_lf (escape s) ≡ false
escape_no_lf [] = refl
escape_no_lf (x ∷ s) = skip (escape_byte x) (escape s) (byte_no_lf x) (escape_no_lf s)

quoted_no_lf : (s : List ℕ) → list_any is_lf (quoted s) ≡ false
quoted_no_lf s = skip (escape s) (34 ∷ []) (escape_no_lf s) refl

call_no_lf : (c : CallId) → IsCallWithin c → list_any is_lf (call_json c) ≡ false
call_no_lf c within = skip (decimal c.caller) _ (decimal_no_lf c.caller (omega (arith, within.0.1))) (skip (decimal c.generation) _ (decimal_no_lf c.generation (omega (arith, within.2))) refl)

option_no_lf : (o : Option CallId) → IfSome o IsCallWithin → list_any is_lf (option_json o) ≡ false
option_no_lf None within = refl
option_no_lf (Some c) within = call_no_lf c within

caller_no_lf : (n : ℕ) → IsCallerNumber n → list_any is_lf (decimal n) ≡ false
caller_no_lf n within = decimal_no_lf n (omega (arith, within.1))

hit_no_lf : (hit : Hit) → list_any is_lf (hit_text hit) ≡ false
hit_no_lf Closed = refl
hit_no_lf Cleared = refl
hit_no_lf Missed = refl

pub record_no_lf : (e : TextEvent) → IsWithinLimits e → HasCount e → list_any is_lf (record_text e) ≡ false
unfolding record_with
record_no_lf (Lead by key call own) within count =
    skip (decimal by) _ (caller_no_lf by within.0) (skip (quoted key) _ (quoted_no_lf key) (skip (call_json call) _ (call_no_lf call within.1) (skip (option_json own) _ (option_no_lf own within.2) refl)))
record_no_lf (Enter by key call member) within count =
    skip (decimal by) _ (caller_no_lf by within.0) (skip (quoted key) _ (quoted_no_lf key) (skip (call_json call) _ (call_no_lf call within.1) (skip (call_json member) _ (call_no_lf member within.2) refl)))
record_no_lf (Forget by key closed) within count =
    skip (decimal by) _ (caller_no_lf by within.0) (skip (quoted key) _ (quoted_no_lf key) (skip (option_json closed) _ (option_no_lf closed within.1) refl))
record_no_lf (ForgetCall by key call hit) within count =
    skip (decimal by) _ (caller_no_lf by within.0) (skip (quoted key) _ (quoted_no_lf key) (skip (call_json call) _ (call_no_lf call within.1) (skip (hit_text hit) _ (hit_no_lf hit) refl)))
record_no_lf (Settle by call (Ok value) joiners) within count =
    skip (decimal by) _ (caller_no_lf by within.0) (skip (call_json call) _ (call_no_lf call within.1) (skip (quoted value) _ (quoted_no_lf value) (skip (decimal joiners) _ (decimal_no_lf joiners (omega (arith, count))) refl)))
record_no_lf (Settle by call (Err error) joiners) within count =
    skip (decimal by) _ (caller_no_lf by within.0) (skip (call_json call) _ (call_no_lf call within.1) (skip (quoted error) _ (quoted_no_lf error) (skip (decimal joiners) _ (decimal_no_lf joiners (omega (arith, count))) refl)))
record_no_lf (Handed by call) within count =
    skip (decimal by) _ (caller_no_lf by within.0) (skip (call_json call) _ (call_no_lf call within.1) refl)

-- the first line of a text ends at its first line feed
none_lf : (xs : List ℕ) → list_any is_lf xs ≡ false → All (λ x. is_lf x ≡ false) xs
none_lf [] none = All-nil (λ x. is_lf x ≡ false)
none_lf (x ∷ xs) none = let parts = or_parts (is_lf x) _ none in All-cons (λ x. is_lf x ≡ false) x xs parts.0 (none_lf xs parts.1)

pub first_line : (line rest : List ℕ) → list_any is_lf line ≡ false → slice_split is_lf (line ++ 10 ∷ rest) ≡ line ∷ slice_split is_lf rest
first_line line rest none = slice_split_at is_lf line 10 rest (none_lf line none) refl
