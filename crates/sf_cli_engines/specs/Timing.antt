-- what `sfctl check --timed` answers
use Rattle.std.specs.Prelude.{◌≡◌, ℕ, List, ◌++◌, length, Option, Ok, Err, codes, decimal}
use Rattle.sf_text.specs.Texts.{same_text}
use Rattle.sf_replay.specs.declared.record.Interval.{Interval}
use Rattle.sf_replay.specs.Record.{TextEvent}
use Rattle.sf_replay.specs.RecordText.{history_of, lost_of, times_of}
use Rattle.sf_replay_timed.specs.InTime.{IsLegalOrderOf}
use Rattle.sf_replay_timed.specs.Witnesses.{witness_text}
use Rattle.sf_cli_engines.specs.Checking.{HasLost}
use Rattle.sf_cli_engines.specs.declared.ending.Ending.{Ending}
use Rattle.sf_cli_engines.specs.declared.ending.Ending.TheVariants as ending
use Rattle.sf_cli_engines.specs.declared.timing.Found.{Found}
use Rattle.sf_cli_engines.specs.declared.timing.Found.TheVariants.{Legal, NoOrder, Unplaced, Undecided}
use Rattle.sf_cli_engines.specs.declared.timing.TimedChecked.{TimedChecked}
use Rattle.sf_cli_engines.specs.declared.timing.TimedChecked.TheVariants.{Whole, Incomplete, BadRecord, OutOfMemory}

-- what is said of a history that was read: where it is legal in time, an order of its events is legal and respects their times
abbrev pub IsFoundOf : List ℕ → List TextEvent → Found → Type 0
IsFoundOf input h (Legal n) = (ordered : List TextEvent) × (times : List (Option Interval))
    × IsLegalOrderOf same_text h (times_of input) ordered times × (n ≡ length h)
IsFoundOf input h (NoOrder witness) = Unit {0}
IsFoundOf input h (Unplaced event) = Unit {0}
IsFoundOf input h Undecided = Unit {0}

abbrev pub IsFoundIn : List ℕ → Found → Type 0
IsFoundIn input found = (h : List TextEvent) × (history_of input ≡ Ok h) × IsFoundOf input h found

-- what it says of an input: what is found of its history, with how many events were lost if any were, or the least line that is no record; want of
-- memory comes at any time
abbrev pub IsTimedCheckOf : List ℕ → TimedChecked → Type 0
IsTimedCheckOf input (Whole found) = IsFoundIn input found × (lost_of input ≡ 0)
IsTimedCheckOf input (Incomplete lost found) = IsFoundIn input found × HasLost input lost
IsTimedCheckOf input (BadRecord n) = history_of input ≡ Err n
IsTimedCheckOf input OutOfMemory = Unit {0}

-- the one line that it prints
abbrev pub found_text : Found → List ℕ
found_text (Legal n) = codes "legal in time: " ++ (decimal n ++ codes " events")
found_text (NoOrder witness) = codes "no order: " ++ witness_text witness
found_text (Unplaced event) = codes "not decided: event " ++ (decimal event ++ codes " found no place")
found_text Undecided = codes "not decided"

abbrev pub timed_text : TimedChecked → List ℕ
timed_text (Whole found) = found_text found
timed_text (Incomplete lost found) = codes "incomplete: " ++ (decimal lost ++ (codes " lost; " ++ found_text found))
timed_text (BadRecord n) = codes "line " ++ (decimal n ++ codes ": not a record")
timed_text OutOfMemory = codes "out of memory"

-- how it ends
abbrev pub timed_ending_of : TimedChecked → Ending
timed_ending_of (Whole (Legal n)) = ending.Answered
timed_ending_of (Whole (NoOrder witness)) = ending.Illegal
timed_ending_of (Whole (Unplaced event)) = ending.Incomplete
timed_ending_of (Whole Undecided) = ending.Incomplete
timed_ending_of (Incomplete lost found) = ending.Incomplete
timed_ending_of (BadRecord n) = ending.Refused
timed_ending_of OutOfMemory = ending.Refused
