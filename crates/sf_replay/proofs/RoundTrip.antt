-- what is written for a history reads as that history
use Rattle.std.proofs.Common.{◌≡◌, ℕ, ◌+◌, List, [], ◌∷◌, ◌++◌, length, map, take, drop, get_or, ◌<◌, ◌≤◌, subst, append_assoc, append-nil, Some, None, Ok, codes, All, IsUtf8, refl, sym, ◌∙◌, ap, option_and_then}
use Rattle.std.proofs.lemmas.Bool.{cond-true}
use Rattle.std.proofs.lemmas.Str.{is_utf8-from_IsUtf8}
use Rattle.std.proofs.lemmas.List.Elements.{All-nil, All-head, All-tail, All-more}
use Rattle.std.proofs.lemmas.List.{drop_more, take_all, drop_all}
use Rattle.std.specs.List.{slice_split}
use Rattle.std.specs.Str.{is_utf8, chars}
use Rattle.serde_json.specs.Read.{read}
use Rattle.serde_json.proofs.OnLiterals.{serde_json_on_literals}
use Rattle.sf_history.specs.History.{joined}
use Rattle.sf_history.specs.Limits.{IsWithinLimits}
use Rattle.sf_replay.specs.Record.{TextEvent, event_in, plain_format, format_in}
use Rattle.sf_replay.specs.RecordText.{json_of, record_of, format_of, without_empty_last, record_lines, then_events, events_of, history_after, history_of_lines, history_of}
use Rattle.sf_replay.specs.Written.{record_text, records_text, history_text, HasCount, HasShortKey}
use Rattle.sf_replay.proofs.RecordJson.{json_of_event, printed, read_printed}
use Rattle.sf_replay.proofs.RecordData.{event_reads, event_numbers, event_shallow}
use Rattle.sf_replay.proofs.NoLineFeed.{is_lf, record_no_lf, first_line}

-- what a written event gives beside its limits: its record is text, and its number of joiners has 32 bits
abbrev pub IsText : TextEvent → Type 0
IsText e = IsUtf8 (record_text e) × HasCount e

json_of_text : (line : List ℕ) → IsUtf8 line → json_of line ≡ read line
unfolding json_of
json_of_text line text = cond-true (is_utf8 line) (read line) None (is_utf8-from_IsUtf8 line text)

-- a record's text reads as its event, in the newest format
pub record_reads : (before : List TextEvent) (e : TextEvent) → IsWithinLimits e → HasShortKey e → IsText e → record_of plain_format before (record_text e) ≡ Some e
record_reads before e within short text =
    ap (option_and_then (event_in plain_format (joined before)))
    (json_of_text (record_text e) text.0 ∙ ap read (sym (printed e)) ∙ read_printed (json_of_event e) (event_numbers e within text.1) (event_shallow e))
    ∙ event_reads (joined before) e within text.1 short

events_read : (before h : List TextEvent) → All IsWithinLimits h → All HasShortKey h → All IsText h → events_of plain_format before (map record_text h) ≡ Ok (before ++ h)
events_read before [] within short texts = ap Ok (sym (append-nil before))
events_read before (e ∷ h) within short texts =
    let first = record_reads before e (All-head IsWithinLimits e h within) (All-head HasShortKey e h short) (All-head IsText e h texts) in
    let rest = events_read (before ++ e ∷ []) h (All-tail IsWithinLimits e h within) (All-tail HasShortKey e h short) (All-tail IsText e h texts) in
    ap (λ o. then_events (length before + 2) o (λ e. events_of plain_format (before ++ e ∷ []) (map record_text h))) first ∙ rest ∙ ap Ok (append_assoc before (e ∷ []) h)

-- the lines of the text
records_split : (h : List TextEvent) → All IsWithinLimits h → All IsText h → slice_split is_lf (records_text h) ≡ map record_text h ++ [] ∷ []
records_split [] within texts = refl
records_split (e ∷ h) within texts =
    first_line (record_text e) (records_text h) (record_no_lf e (All-head IsWithinLimits e h within) (All-head IsText e h texts).1)
    ∙ ap (λ z. record_text e ∷ z) (records_split h (All-tail IsWithinLimits e h within) (All-tail IsText e h texts))

last_dropped : (ls : List (List ℕ)) → without_empty_last (ls ++ [] ∷ []) ≡ ls
last_dropped [] = refl
last_dropped (x ∷ []) = refl
last_dropped (x ∷ y ∷ ls) = ap (λ z. x ∷ z) (last_dropped (y ∷ ls))

abbrev format_line : List ℕ
format_line = codes "{\"format\":3}"

format_read : format_of format_line ≡ Some plain_format
unfolding json_of format_in is_utf8 chars serde_json_on_literals
format_read = refl

lines_written : (h : List TextEvent) → All IsWithinLimits h → All IsText h → record_lines (history_text h) ≡ format_line ∷ map record_text h
unfolding history_text
lines_written h within texts =
    ap without_empty_last (first_line format_line (records_text h) refl ∙ ap (λ z. format_line ∷ z) (records_split h within texts)) ∙ last_dropped (format_line ∷ map record_text h)

pub history_reads : (h : List TextEvent) → All IsWithinLimits h → All HasShortKey h → All IsText h → history_of (history_text h) ≡ Ok h
unfolding history_of
history_reads h within short texts =
    ap history_of_lines (lines_written h within texts) ∙ ap (λ o. history_after o (map record_text h)) format_read ∙ events_read [] h within short texts

-- ---- what the loop that writes keeps

-- what is written, before the records of the events that are left, is the text of the history; the events' records are texts
pub record IsWritten (h : List TextEvent) (i : ℕ) (text : List ℕ) : Type 0 where
  pub whole : text ++ records_text (drop i h) ≡ history_text h
  pub texts : All IsText (take i h)

pub written_none : (h : List TextEvent) (text : List ℕ) → text ≡ codes "{\"format\":3}\n" → IsWritten h 0 text
unfolding history_text
written_none h text is = record { whole = ap (λ t. t ++ records_text h) is; texts = All-nil IsText }

pub written_more : (h : List TextEvent) (i : ℕ) (e : TextEvent) (text line new : List ℕ) → i < length h → e ≡ get_or h i e → line ≡ record_text e → IsUtf8 line → HasCount e → new ≡ (text ++ line) ++ codes "\n"
    → IsWritten h i text → IsWritten h (i + 1) new
written_more h i e text line new within here is utf8 count added before =
    let left : records_text (drop i h) ≡ record_text e ++ (codes "\n" ++ records_text (drop (i + 1) h)) = ap records_text (drop_more h i e within ∙ ap (λ z. z ∷ drop (i + 1) h) (sym here)) in
    let text_of : IsText (get_or h i e) = subst IsText here (subst IsUtf8 is utf8, count) in
    record {
      whole = ap (λ t. t ++ records_text (drop (i + 1) h)) (added ∙ ap (λ l. (text ++ l) ++ codes "\n") is)
          ∙ append_assoc (text ++ record_text e) (codes "\n") (records_text (drop (i + 1) h)) ∙ append_assoc text (record_text e) (codes "\n" ++ records_text (drop (i + 1) h))
          ∙ ap (λ t. text ++ t) (sym left) ∙ before.whole;
      texts = All-more IsText h i e within before.texts text_of;
    }

pub written_all : (h : List TextEvent) (i : ℕ) (text : List ℕ) → length h ≤ i → IsWritten h i text → (text ≡ history_text h) × (All IsWithinLimits h → All HasShortKey h → history_of text ≡ Ok h)
written_all h i text past done =
    let is = sym (append-nil text) ∙ ap (λ l. text ++ records_text l) (sym (drop_all i h past)) ∙ done.whole in
    let texts : All IsText h = subst (All IsText) (take_all i h past) done.texts in
    (is, λ within short. ap history_of is ∙ history_reads h within short texts)
