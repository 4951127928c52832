-- logs that stand in a text one after another, as one recording
use Rattle.std.specs.Prelude.{◌≡◌, ℕ, ◌+◌, List, [], ◌∷◌, ◌++◌, Option, Some, None, Result, Ok, Err, min}
use Rattle.sf_replay.specs.declared.record.Interval.{Interval}
use Rattle.sf_replay.specs.declared.reading.RecordRefusal.{RecordRefusal}
use Rattle.sf_replay.specs.declared.reading.RecordRefusal.TheVariants.{BadRecord, Memory}
use Rattle.sf_replay.specs.Record.{TextEvent}
use Rattle.sf_replay.specs.RecordText.{record_of, format_of, time_of, lost_of_line, record_lines}

-- what is read of logs: their events, the time of each, and how many events they say were lost
pub record Read : Type 0 where
  pub events : List TextEvent
  pub times : List (Option Interval)
  pub lost : ℕ

-- one more event, with its time
abbrev pub with_event : Read → TextEvent → Option Interval → Read
with_event r event time = record { events = r.events ++ event ∷ []; times = r.times ++ time ∷ []; lost = r.lost }

-- one more log, which says that so many events were lost; the number stays in 64 bits
abbrev pub with_lost : Read → ℕ → Read
with_lost r lost = record { events = r.events; times = r.times; lost = min (r.lost + lost) 18446744073709551615 }

-- goes on with the event of the nth line, or refuses that line
abbrev pub then_read : ℕ → Option TextEvent → (TextEvent → Result Read ℕ) → Result Read ℕ
then_read n None more = Err n
then_read n (Some event) more = more event

-- goes on with the format that a line names, or else with the line as a record
abbrev pub or_format : Option ℕ → Result Read ℕ → (ℕ → Result Read ℕ) → Result Read ℕ
or_format None found more = found
or_format (Some format) found more = more format

-- what is read of the lines from the nth on, in this format, after what was read: a line that names a format begins a log
abbrev pub logs_of : ℕ → ℕ → Read → List (List ℕ) → Result Read ℕ
logs_of n format read [] = Ok read
logs_of n format read (line ∷ lines) =
    or_format (format_of line)
    (then_read n (record_of format read.events line) (λ event. logs_of (n + 1) format (with_event read event (time_of format line)) lines))
    (λ next. logs_of (n + 1) next (with_lost read (lost_of_line line)) lines)

abbrev pub nothing_read : Read
nothing_read = record { events = []; times = []; lost = 0 }

abbrev pub logs_after : Option ℕ → List ℕ → List (List ℕ) → Result Read ℕ
logs_after None first lines = Err 1
logs_after (Some format) first lines = logs_of 2 format (with_lost nothing_read (lost_of_line first)) lines

-- the logs of a text: its first line is a format
abbrev pub logs_of_lines : List (List ℕ) → Result Read ℕ
logs_of_lines [] = Err 1
logs_of_lines (first ∷ lines) = logs_after (format_of first) first lines

unfoldable pub logs_in : List ℕ → Result Read ℕ
logs_in text = logs_of_lines (record_lines text)

-- what a refusal to read says of the text: a bad record's line is the least bad one; want of memory says nothing
abbrev pub IsLogRefusal : RecordRefusal → Result Read ℕ → Type 0
IsLogRefusal (BadRecord line) found = found ≡ Err line
IsLogRefusal Memory found = Unit {0}
