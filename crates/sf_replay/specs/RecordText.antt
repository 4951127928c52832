-- a text of records: the history that it holds, or the least line that is not what stands there
use Rattle.std.specs.Prelude.{◌≡◌, ◌↔◌, ◌⊎◌, ℕ, ◌+◌, ◌==◌, List, [], ◌∷◌, ◌++◌, length, if◌then◌else◌, Option, Some, None, option_and_then, Result, Ok, Err, ⊤, codes, decimal, map}
use Rattle.std.specs.List.{slice_split}
use Rattle.std.specs.Str.{is_utf8}
use Rattle.serde_json.specs.Data.{Data}
use Rattle.serde_json.specs.Read.{read}
use Rattle.sf_history.specs.History.{joined}
use Rattle.sf_replay.specs.declared.reading.RecordRefusal.{RecordRefusal}
use Rattle.sf_replay.specs.declared.reading.RecordRefusal.TheVariants.{BadRecord, Memory}
use Rattle.sf_replay.specs.declared.record.Interval.{Interval}
use Rattle.sf_replay.specs.Record.{TextEvent, event_in, format_in, lost_in, time_in}

-- the JSON value that a line is
unfoldable pub json_of : List ℕ → Option Data
json_of line = if is_utf8 line then read line else None

-- the event that a line records in this format, after these events
abbrev pub record_of : ℕ → List TextEvent → List ℕ → Option TextEvent
record_of format before line = option_and_then (event_in format (joined before)) (json_of line)

abbrev pub format_of : List ℕ → Option ℕ
format_of line = option_and_then format_in (json_of line)

-- what stands after the last line feed is a line only where something stands there
abbrev pub without_empty_last : List (List ℕ) → List (List ℕ)
without_empty_last [] = []
without_empty_last (line ∷ []) = if length line == 0 then [] else line ∷ []
without_empty_last (line ∷ next ∷ more) = line ∷ without_empty_last (next ∷ more)

abbrev pub record_lines : List ℕ → List (List ℕ)
record_lines text = without_empty_last (slice_split (λ byte. byte == 10) text)

-- goes on with the event of the nth line, or refuses that line
abbrev pub then_events : ℕ → Option TextEvent → (TextEvent → Result (List TextEvent) ℕ) → Result (List TextEvent) ℕ
then_events n None more = Err n
then_events n (Some event) more = more event

-- these events and those of the further lines, or the least line that is no record; the first line has the format
abbrev pub events_of : ℕ → List TextEvent → List (List ℕ) → Result (List TextEvent) ℕ
events_of format before [] = Ok before
events_of format before (line ∷ lines) =
    then_events (length before + 2) (record_of format before line)
    (λ event. events_of format (before ++ event ∷ []) lines)

abbrev pub history_after : Option ℕ → List (List ℕ) → Result (List TextEvent) ℕ
history_after None lines = Err 1
history_after (Some format) lines = events_of format [] lines

-- the history of a text: its first line is the format, and each further line is a record
abbrev pub history_of_lines : List (List ℕ) → Result (List TextEvent) ℕ
history_of_lines [] = Err 1
history_of_lines (first ∷ lines) = history_after (format_of first) lines

unfoldable pub history_of : List ℕ → Result (List TextEvent) ℕ
history_of text = history_of_lines (record_lines text)

-- ---- the times of a text, and how many events it says were lost

abbrev pub some_time : Option (Option Interval) → Option Interval
some_time None = None
some_time (Some time) = time

-- when the event of a line took effect, where the line says it
unfoldable pub time_of : ℕ → List ℕ → Option Interval
time_of format line = option_and_then (λ d. some_time (time_in format d)) (json_of line)

abbrev pub times_after : Option ℕ → List (List ℕ) → List (Option Interval)
times_after None lines = []
times_after (Some format) lines = map (time_of format) lines

abbrev pub times_of_lines : List (List ℕ) → List (Option Interval)
times_of_lines [] = []
times_of_lines (first ∷ lines) = times_after (format_of first) lines

-- for each record of a text its time, if it has one
unfoldable pub times_of : List ℕ → List (Option Interval)
times_of text = times_of_lines (record_lines text)

abbrev pub lost_or_none : Option ℕ → ℕ
lost_or_none None = 0
lost_or_none (Some lost) = lost

unfoldable pub lost_of_line : List ℕ → ℕ
lost_of_line line = lost_or_none (option_and_then lost_in (json_of line))

abbrev pub lost_of_lines : List (List ℕ) → ℕ
lost_of_lines [] = 0
lost_of_lines (first ∷ lines) = lost_of_line first

-- how many events the first line of a text says were lost; none where it says nothing
unfoldable pub lost_of : List ℕ → ℕ
lost_of text = lost_of_lines (record_lines text)

-- what a refusal to read says of the text: a bad record's line is the least bad one; want of memory says nothing
abbrev pub IsRecordRefusal : RecordRefusal → Result (List TextEvent) ℕ → Type 0
IsRecordRefusal (BadRecord line) found = found ≡ Err line
IsRecordRefusal Memory found = ⊤

-- what is said of records that are not read
abbrev pub refusal_text : RecordRefusal → List ℕ
refusal_text (BadRecord line) = codes "line " ++ (decimal line ++ codes ": not a record")
refusal_text Memory = codes "out of memory"

-- ---- the same in other words

-- each line records the next of these events, after those before it
abbrev pub RecordEach : ℕ → List TextEvent → List (List ℕ) → List TextEvent → Type 0
RecordEach format before [] [] = ⊤
RecordEach format before [] (event ∷ events) = ⊥
RecordEach format before (line ∷ lines) [] = ⊥
RecordEach format before (line ∷ lines) (event ∷ events) =
    (record_of format before line ≡ Some event) × RecordEach format (before ++ event ∷ []) lines events

-- the first line is a format, and the others record these events in it
abbrev pub AreRecords : List (List ℕ) → List TextEvent → Type 0
AreRecords [] h = ⊥
AreRecords (first ∷ lines) h = (format : ℕ) × (format_of first ≡ Some format) × RecordEach format [] lines h

-- some lines record a history, and the next one, which is this one, records nothing after it; the format's line is the first
pub record IsLeastBadRecord (format : ℕ) (lines : List (List ℕ)) (n : ℕ) : Type 0 where
  pub good : List (List ℕ)
  pub bad : List ℕ
  pub rest : List (List ℕ)
  pub events : List TextEvent
  pub stands : lines ≡ good ++ bad ∷ rest
  pub recorded : RecordEach format [] good events
  pub refused : record_of format events bad ≡ None
  pub counted : n ≡ length good + 2

-- the first line is missing or no format, and is this one; or it is one, and this is the least bad record
abbrev pub IsLeastBad : List (List ℕ) → ℕ → Type 0
IsLeastBad [] n = n ≡ 1
IsLeastBad (first ∷ lines) n =
    ((format_of first ≡ None) × (n ≡ 1))
    ⊎ ((format : ℕ) × (format_of first ≡ Some format) × IsLeastBadRecord format lines n)

-- a text holds a history exactly where its lines are records of it, and else fails at its least bad line
abbrev pub HistoryIsRecords : Type 0
HistoryIsRecords = (text : List ℕ) (h : List TextEvent) → (history_of text ≡ Ok h) ↔ AreRecords (record_lines text) h

abbrev pub FailureIsLeastBad : Type 0
FailureIsLeastBad = (text : List ℕ) (n : ℕ) → (history_of text ≡ Err n) ↔ IsLeastBad (record_lines text) n
