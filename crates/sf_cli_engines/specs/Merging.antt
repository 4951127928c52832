-- what `sfctl merge` answers
use Rattle.std.specs.Prelude.{◌≡◌, ℕ, List, ◌++◌, Option, Ok, codes, length, zip, IsPermutation, IsSortedByKey}
use Rattle.std.specs.Cmp.Lexicographic.{slice_cmp}
use Rattle.std.specs.Ordering.{nat_cmp}
use Rattle.sf_replay.specs.declared.reading.RecordRefusal.{RecordRefusal}
use Rattle.sf_replay.specs.declared.record.Interval.{Interval}
use Rattle.sf_replay.specs.Logs.{Read, logs_in, IsLogRefusal}
use Rattle.sf_replay.specs.Merged.{standing_cmp, standing_of}
use Rattle.sf_replay.specs.Record.{TextEvent}
use Rattle.sf_replay.specs.RecordText.{refusal_text}
use Rattle.sf_replay.specs.Written.{recording_text}

-- the events of logs in the order of merged histories: each once, with its time
pub record IsMergeOf (read : Read) (events : List TextEvent) (times : List (Option Interval)) : Type 0 where
  pub once : IsPermutation (zip read.events read.times) (zip events times)
  pub even : length events ≡ length times
  pub sorted : IsSortedByKey (standing_of (slice_cmp nat_cmp) read.events) standing_cmp events

-- the recording that the logs of a text are merged into
abbrev pub IsMergedText : List ℕ → List ℕ → Type 0
IsMergedText input text = (read : Read) × (events : List TextEvent) × (times : List (Option Interval))
    × (logs_in input ≡ Ok read) × IsMergeOf read events times × (text ≡ recording_text read.lost events times)

-- the one line that says why logs are refused
abbrev pub IsMergeRefused : List ℕ → List ℕ → Type 0
IsMergeRefused input text = (refusal : RecordRefusal) × IsLogRefusal refusal (logs_in input) × (text ≡ refusal_text refusal ++ codes "\n")
