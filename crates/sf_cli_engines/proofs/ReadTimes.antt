-- a text of records has a time, or none, for each event of its history
use Rattle.std.proofs.Common.{◌≡◌, ℕ, ◌+◌, List, [], ◌∷◌, ◌++◌, length, map, Option, Some, None, Result, Ok, Err, ap, arith}
use Rattle.std.proofs.lemmas.List.{length-append, length-map}
use Rattle.sf_replay.specs.Record.{TextEvent}
use Rattle.sf_replay.specs.RecordText.{record_of, then_events, events_of, history_after, history_of_lines, history_of, format_of, time_of, times_after, times_of_lines, times_of, record_lines}

then_count : (n : ℕ) (found : Option TextEvent) (more : TextEvent → Result (List TextEvent) ℕ) (h : List TextEvent) (k : ℕ) → ((e : TextEvent) → more e ≡ Ok h → length h ≡ k)
    → then_events n found more ≡ Ok h → length h ≡ k
then_count n None more h k each is = cc
then_count n (Some e) more h k each is = each e is

events_count : (format : ℕ) (before : List TextEvent) (lines : List (List ℕ)) (h : List TextEvent) → events_of format before lines ≡ Ok h → length h ≡ length before + length lines
events_count format before [] h is =
    let same : before ≡ h = cc in
    let counted : length before ≡ length h = ap length same in
    omega (arith, counted)
events_count format before (line ∷ lines) h is =
    then_count (length before + 2) (record_of format before line) (λ e. events_of format (before ++ e ∷ []) lines) h (length before + length (line ∷ lines))
    (λ e same. let counted = events_count format (before ++ e ∷ []) lines h same in omega (arith, counted, length-append before (e ∷ [])))
    is

after_count : (found : Option ℕ) (lines : List (List ℕ)) (h : List TextEvent) → history_after found lines ≡ Ok h → length (times_after found lines) ≡ length h
after_count None lines h is = cc
after_count (Some format) lines h is = let counted = events_count format [] lines h is in omega (arith, counted, length-map lines (time_of format))

lines_count : (lines : List (List ℕ)) (h : List TextEvent) → history_of_lines lines ≡ Ok h → length (times_of_lines lines) ≡ length h
lines_count [] h is = cc
lines_count (first ∷ lines) h is = after_count (format_of first) lines h is

pub times_count : (text : List ℕ) (h : List TextEvent) → history_of text ≡ Ok h → length (times_of text) ≡ length h
unfolding history_of times_of
times_count text h is = lines_count (record_lines text) h is
