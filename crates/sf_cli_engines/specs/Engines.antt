-- the engines: their names, what each shows, and what each writes
use Rattle.std.specs.Prelude.{◌≡◌, ◌⊎◌, ◌++◌, ℕ, true, false, List, codes}
use Rattle.std.specs.Str.Lines.{lines}
use Rattle.sf_model.specs.declared.refusal.ScriptRefusal.{ScriptRefusal}
use Rattle.sf_model.specs.RefusalText.{refusal_text}
use Rattle.sf_model.specs.ScriptText.{IsReplyText, IsDue}
use Rattle.sf_steps_text.specs.declared.refusal.ScheduleRefusal.{ScheduleRefusal}
use Rattle.sf_steps_text.specs.Played.{IsRefusalOf}
use Rattle.sf_steps_text.specs.TraceText as trace_texts
use Rattle.sf_cli_engines.specs.declared.checking.Checked.{Checked}
use Rattle.sf_cli_engines.specs.Checking.{IsCheckOf, checked_text, ending_of}
use Rattle.sf_cli_engines.specs.declared.timing.TimedChecked.{TimedChecked}
use Rattle.sf_cli_engines.specs.Timing.{IsTimedCheckOf, timed_text, timed_ending_of}
use Rattle.sf_cli_engines.specs.Drawing.{IsShownAs}
use Rattle.sf_cli_engines.specs.Merging.{IsMergedText, IsMergeRefused}
use Rattle.sf_cli_engines.specs.Playing.{IsTraceText, HasPicture}
use Rattle.sf_cli_engines.specs.Recording.{IsScriptRecords, IsScheduleRecords}
use Rattle.sf_cli_engines.specs.declared.ending.Ending.{Ending}
use Rattle.sf_cli_engines.specs.declared.ending.Ending.TheVariants.{Answered, Illegal, Incomplete, Refused}
use Rattle.sf_cli_engines.specs.declared.engine.Engine.{Engine}
use Rattle.sf_cli_engines.specs.declared.engine.Engine.TheVariants.{Run, Steps, Check, CheckLogs, Merge}
use Rattle.sf_cli_engines.specs.declared.engine.Form.{Form}
use Rattle.sf_cli_engines.specs.declared.engine.Form.TheVariants as asked
use Rattle.sf_cli_engines.specs.declared.engine.Judged.TheVariants.{AsItStands, InTime, Drawn, EachKey, EachKeyInTime}
use Rattle.sf_cli_engines.specs.declared.engine.Judged.{Judged}
use Rattle.sf_cli_engines.specs.declared.engine.Shown.TheVariants.{Lines, History, Picture}

-- the name of its subcommand
abbrev pub name_of : Engine → List ℕ
name_of (Run history) = codes "run"
name_of (Steps shown) = codes "steps"
name_of (Check judged) = codes "check"
name_of (CheckLogs judged) = codes "check"
name_of Merge = codes "merge"

abbrev pub shown_by : Engine → Form
shown_by (Run false) = asked.Lines
shown_by (Run true) = asked.History
shown_by (Steps Lines) = asked.Lines
shown_by (Steps History) = asked.History
shown_by (Steps Picture) = asked.Picture
shown_by (Check AsItStands) = asked.Lines
shown_by (Check InTime) = asked.Timed
shown_by (Check Drawn) = asked.Picture
shown_by (Check EachKey) = asked.All
shown_by (Check EachKeyInTime) = asked.TimedAll
shown_by (CheckLogs judged) = asked.Merged judged
shown_by Merge = asked.Lines

-- what is written of a script when it is refused: the one line that says why
abbrev pub IsScriptRefused : List ℕ → List ℕ → Type 0
IsScriptRefused input text = (refusal : ScriptRefusal) × IsDue input refusal × (text ≡ refusal_text refusal ++ codes "\n")

-- the same of a schedule
abbrev pub IsScheduleRefused : List ℕ → List ℕ → Type 0
IsScheduleRefused input text = (refusal : ScheduleRefusal) × IsRefusalOf (lines input) refusal
    × (text ≡ trace_texts.refusal_text refusal ++ codes "\n")

-- what is written of an input that is answered by such a text or refused by such a line, and never illegal or incomplete
abbrev pub IsWrittenAs : (List ℕ → Type 0) → (List ℕ → Type 0) → Ending → List ℕ → Type 0
IsWrittenAs IsText IsRefusal Answered text = IsText text
IsWrittenAs IsText IsRefusal Illegal text = ⊥
IsWrittenAs IsText IsRefusal Incomplete text = ⊥
IsWrittenAs IsText IsRefusal Refused text = IsRefusal text

-- what `sfctl check` writes of an input when it ends so
abbrev pub IsWrittenByCheck : List ℕ → Ending → List ℕ → Type 0
IsWrittenByCheck input ending text = (checked : Checked) × IsCheckOf input checked
    × (ending ≡ ending_of checked) × (text ≡ checked_text checked ++ codes "\n")

-- the same of `sfctl check --timed`
abbrev pub IsWrittenByTimedCheck : List ℕ → Ending → List ℕ → Type 0
IsWrittenByTimedCheck input ending text = (checked : TimedChecked) × IsTimedCheckOf input checked
    × (ending ≡ timed_ending_of checked) × (text ≡ timed_text checked ++ codes "\n")

-- the same of `sfctl check --svg`: it says what `check --timed` says, or draws it
abbrev pub IsWrittenByDrawnCheck : List ℕ → Ending → List ℕ → Type 0
IsWrittenByDrawnCheck input ending text = (checked : TimedChecked) × IsTimedCheckOf input checked
    × (ending ≡ timed_ending_of checked) × IsShownAs checked text

-- the same by how the records are judged; which keys have a fault is said elsewhere
abbrev pub IsCheckedAs : Judged → List ℕ → Ending → List ℕ → Type 0
IsCheckedAs AsItStands input = IsWrittenByCheck input
IsCheckedAs InTime input = IsWrittenByTimedCheck input
IsCheckedAs Drawn input = IsWrittenByDrawnCheck input
IsCheckedAs EachKey input = IsWrittenByCheck input
IsCheckedAs EachKeyInTime input = IsWrittenByTimedCheck input

-- the same of logs: of the recording that they are merged into, or the line that refuses them
abbrev pub IsLogsCheckedAs : Judged → List ℕ → Ending → List ℕ → Type 0
IsLogsCheckedAs judged input ending text =
    ((merged : List ℕ) × IsMergedText input merged × IsCheckedAs judged merged ending text)
    ⊎ ((ending ≡ Refused) × IsMergeRefused input text)

-- the same of an engine
abbrev pub IsWrittenBy : Engine → List ℕ → Ending → List ℕ → Type 0
IsWrittenBy (Run false) input = IsWrittenAs (IsReplyText input) (IsScriptRefused input)
IsWrittenBy (Run true) input = IsWrittenAs (IsScriptRecords input) (IsScriptRefused input)
IsWrittenBy (Steps Lines) input = IsWrittenAs (IsTraceText input) (IsScheduleRefused input)
IsWrittenBy (Steps History) input = IsWrittenAs (IsScheduleRecords input) (IsScheduleRefused input)
IsWrittenBy (Steps Picture) input = IsWrittenAs (λ text. HasPicture input) (IsScheduleRefused input)
IsWrittenBy (Check judged) input = IsCheckedAs judged input
IsWrittenBy (CheckLogs judged) input = IsLogsCheckedAs judged input
IsWrittenBy Merge input = IsWrittenAs (IsMergedText input) (IsMergeRefused input)

-- what an engine writes of an input, however it ends
abbrev pub IsAnswerOf : Engine → List ℕ → List ℕ → Type 0
IsAnswerOf engine input text = (ending : Ending) × IsWrittenBy engine input ending text
