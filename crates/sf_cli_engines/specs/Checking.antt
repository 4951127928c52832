-- what `sfctl check` answers
use Rattle.std.specs.Prelude.{◌≡◌, ℕ, ◌<◌, List, ◌++◌, length, Ok, Err, codes, decimal}
use Rattle.sf_history.specs.Legal.{IsLegal}
use Rattle.sf_text.specs.Texts.{same_text}
use Rattle.sf_replay_check.specs.declared.cause.Cause.{Cause}
use Rattle.sf_replay_check.specs.Checker.{IsFirstFault, cause_text}
use Rattle.sf_replay.specs.Record.{TextEvent}
use Rattle.sf_replay.specs.RecordText.{history_of, lost_of}
use Rattle.sf_cli_engines.specs.declared.checking.Checked.{Checked}
use Rattle.sf_cli_engines.specs.declared.checking.Checked.TheVariants.{Legal, Illegal, IncompleteLegal, IncompleteIllegal, BadRecord, OutOfMemory}
use Rattle.sf_cli_engines.specs.declared.ending.Ending.{Ending}
use Rattle.sf_cli_engines.specs.declared.ending.Ending.TheVariants as ending

-- a legal history and how many events it has
abbrev pub IsLegalInput : List ℕ → ℕ → Type 0
IsLegalInput input n = (h : List TextEvent) × (history_of input ≡ Ok h) × IsLegal same_text h × (n ≡ length h)

-- an illegal history, and its first fault
abbrev pub IsIllegalInput : List ℕ → ℕ → Cause → Type 0
IsIllegalInput input i c = (h : List TextEvent) × (history_of input ≡ Ok h) × IsFirstFault same_text h i c

-- the input says that so many events were lost, and at least one
abbrev pub HasLost : List ℕ → ℕ → Type 0
HasLost input lost = (lost ≡ lost_of input) × (0 < lost)

-- what it says of an input: whether its history is legal, with how many events were lost if any were, or the least line that is no record; want of
-- memory comes at any time
abbrev pub IsCheckOf : List ℕ → Checked → Type 0
IsCheckOf input (Legal n) = IsLegalInput input n × (lost_of input ≡ 0)
IsCheckOf input (Illegal i c) = IsIllegalInput input i c × (lost_of input ≡ 0)
IsCheckOf input (IncompleteLegal lost n) = IsLegalInput input n × HasLost input lost
IsCheckOf input (IncompleteIllegal lost i c) = IsIllegalInput input i c × HasLost input lost
IsCheckOf input (BadRecord n) = history_of input ≡ Err n
IsCheckOf input OutOfMemory = Unit {0}

-- the one line that it prints
abbrev pub checked_text : Checked → List ℕ
checked_text (Legal n) = codes "legal: " ++ (decimal n ++ codes " events")
checked_text (Illegal i c) = codes "event " ++ (decimal i ++ (codes ": " ++ cause_text c))
checked_text (IncompleteLegal lost n) = codes "incomplete: " ++ (decimal lost ++ (codes " lost; legal: " ++ (decimal n ++ codes " events")))
checked_text (IncompleteIllegal lost i c) =
    codes "incomplete: " ++ (decimal lost ++ (codes " lost; event " ++ (decimal i ++ (codes ": " ++ cause_text c))))
checked_text (BadRecord n) = codes "line " ++ (decimal n ++ codes ": not a record")
checked_text OutOfMemory = codes "out of memory"

-- how it ends
abbrev pub ending_of : Checked → Ending
ending_of (Legal n) = ending.Answered
ending_of (Illegal i c) = ending.Illegal
ending_of (IncompleteLegal lost n) = ending.Incomplete
ending_of (IncompleteIllegal lost i c) = ending.Incomplete
ending_of (BadRecord n) = ending.Refused
ending_of OutOfMemory = ending.Refused
