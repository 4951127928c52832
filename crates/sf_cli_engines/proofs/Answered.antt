-- beginnings of what the engines write
use Rattle.std.proofs.Common.{◌≡◌, ℕ, true, false, List, ◌++◌, Option, Some, None, Result, Ok, Err, IfSome, IfOk, IfErr, inl, inr, refl, codes}
use Rattle.sf_text.specs.StreamText.{AppendsPart}
use Rattle.sf_text.specs.declared.stream.StreamFault.{StreamFault}
use Rattle.sf_model.specs.declared.refusal.ScriptRefusal.TheVariants as script
use Rattle.sf_model.specs.declared.refusal.ScriptRefusal.{ScriptRefusal}
use Rattle.sf_model.specs.RefusalText as script_text
use Rattle.sf_model.specs.ScriptText.{IsAnswerText, IsDue}
use Rattle.sf_steps_text.specs.declared.refusal.ScheduleRefusal.{ScheduleRefusal}
use Rattle.sf_steps_text.specs.Played.{IsRefusalOf}
use Rattle.sf_steps_text.specs.TraceText as trace_text
use Rattle.std.specs.Io.KnownBytes.{Appends}
use Rattle.std.specs.Str.Lines.{lines}
use Rattle.sf_steps_text.specs.declared.refusal.ScheduleRefusal.TheVariants as schedule
use Rattle.sf_replay.specs.declared.reading.RecordRefusal.{RecordRefusal}
use Rattle.sf_replay.specs.declared.reading.RecordRefusal.TheVariants as records
use Rattle.sf_replay.specs.Logs.{logs_in, IsLogRefusal}
use Rattle.sf_replay.specs.RecordText as record_text
use Rattle.sf_cli_engines.specs.declared.checking.Checked.TheVariants as checked
use Rattle.sf_cli_engines.specs.declared.timing.TimedChecked.TheVariants as timed
use Rattle.sf_cli_engines.specs.declared.ending.Ending.{Ending}
use Rattle.sf_cli_engines.specs.declared.ending.Ending.TheVariants.{Answered, Refused}
use Rattle.sf_cli_engines.specs.declared.engine.Engine.{Engine}
use Rattle.sf_cli_engines.specs.declared.engine.Engine.TheVariants.{Run, Steps, Check, CheckLogs, Merge}
use Rattle.sf_cli_engines.specs.declared.engine.Judged.TheVariants.{AsItStands, InTime, Drawn, EachKey, EachKeyInTime}
use Rattle.sf_cli_engines.specs.declared.engine.Shown.TheVariants.{Lines, History, Picture}
use Rattle.sf_cli_engines.specs.Merging.{IsMergeRefused}
use Rattle.sf_cli_engines.specs.Engines.{IsAnswerOf, IsWrittenBy, IsWrittenAs, IsScriptRefused, IsScheduleRefused}

-- a script's whole answer is what `sfctl run` writes
pub run_part : (input : List ℕ) (old new : Option (List ℕ)) → (text : List ℕ) × IsAnswerText input text × AppendsPart old new text
    → (text : List ℕ) × IsAnswerOf (Run false) input text × AppendsPart old new text
run_part input old new part =
    elim part.1 [
      | inl replied ↦ (part.0, (Answered, replied), part.2)
      | inr refused ↦ (part.0, (Refused, refused), part.2)
    ]

-- want of memory is an answer to any input
memory_text : (engine : Engine) (input : List ℕ) → IsWrittenBy engine input Refused (codes "out of memory" ++ codes "\n")
memory_text (Run false) input = (script.OutOfMemory, tt, refl)
memory_text (Run true) input = (script.OutOfMemory, tt, refl)
memory_text (Steps Lines) input = (schedule.Memory, tt, refl)
memory_text (Steps History) input = (schedule.Memory, tt, refl)
memory_text (Steps Picture) input = (schedule.Memory, tt, refl)
memory_text (Check AsItStands) input = (checked.OutOfMemory, tt, refl, refl)
memory_text (Check InTime) input = (timed.OutOfMemory, tt, refl, refl)
memory_text (Check Drawn) input = (timed.OutOfMemory, tt, refl, refl)
memory_text (Check EachKey) input = (checked.OutOfMemory, tt, refl, refl)
memory_text (Check EachKeyInTime) input = (timed.OutOfMemory, tt, refl, refl)
memory_text (CheckLogs judged) input = inr (refl, (records.Memory, tt, refl))
memory_text Merge input = (records.Memory, tt, refl)

pub memory_written : (known : Option (List ℕ)) (engine : Engine) (old new : Option (List ℕ))
    → Appends old new (codes "out of memory" ++ codes "\n") → IfSome known (λ input. (text : List ℕ) × IsWrittenBy engine input Refused text × Appends old new text)
memory_written None engine old new written = tt
memory_written (Some input) engine old new written = (codes "out of memory" ++ codes "\n", memory_text engine input, written)

pub memory_part : {A : Type 0} (r : Result A StreamFault) (fault : StreamFault) (known : Option (List ℕ)) (engine : Engine) (old new : Option (List ℕ))
    → AppendsPart old new (codes "out of memory" ++ codes "\n") → IfErr r (λ f. f ≡ fault → IfSome known (λ input. (text : List ℕ) × IsAnswerOf engine input text × AppendsPart old new text))
memory_part (Ok a) fault known engine old new written = tt
memory_part (Err e) fault None engine old new written = λ is. tt
memory_part (Err e) fault (Some input) engine old new written = λ is. (codes "out of memory" ++ codes "\n", (Refused, memory_text engine input), written)

-- a script's refusal has its line, and so has a schedule's
pub script_refused : {S : Type 0} (input : List ℕ) (answered : Result S ScriptRefusal) → IfErr answered (IsDue input)
    → IfErr answered (λ refusal. IsScriptRefused input (script_text.refusal_text refusal ++ codes "\n"))
script_refused input (Ok text) due = tt
script_refused input (Err refusal) due = (refusal, due, refl)

pub schedule_refused : {S : Type 0} (input : List ℕ) (answered : Result S ScheduleRefusal)
    → IfErr answered (λ refusal. IsRefusalOf (lines input) refusal)
    → IfErr answered (λ refusal. IsScheduleRefused input (trace_text.refusal_text refusal ++ codes "\n"))
schedule_refused input (Ok text) due = tt
schedule_refused input (Err refusal) due = (refusal, due, refl)

pub merge_refused : {S : Type 0} (input : List ℕ) (answered : Result S RecordRefusal) → IfErr answered (λ refusal. IsLogRefusal refusal (logs_in input))
    → IfErr answered (λ refusal. IsMergeRefused input (record_text.refusal_text refusal ++ codes "\n"))
merge_refused input (Ok text) due = tt
merge_refused input (Err refusal) due = (refusal, due, refl)

-- the text that answers or the line of a refusal is what is written
pub answer_written : {S E : Type 0} (bytes : S → List ℕ) (line_of : E → List ℕ) (IsText IsRefusal : List ℕ → Type 0)
    (answered : Result S E) (ended : Result Ending StreamFault) (old new : Option (List ℕ))
    → IfOk answered (λ text. IsText (bytes text)) → IfErr answered (λ refusal. IsRefusal (line_of refusal ++ codes "\n"))
    → IfOk answered (λ text. IfOk ended (λ ending. (ending ≡ Answered) × Appends old new (bytes text)))
    → IfErr answered (λ refusal. IfOk ended (λ ending. (ending ≡ Refused) × Appends old new (line_of refusal ++ codes "\n")))
    → IfOk ended (λ ending. (text : List ℕ) × IsWrittenAs IsText IsRefusal ending text × Appends old new text)
answer_written bytes line_of IsText IsRefusal answered (Err fault) old new is refused answers says = tt
answer_written bytes line_of IsText IsRefusal (Ok text) (Ok ending) old new is refused answers says =
    (bytes text, rw answers.0 is, answers.1)
answer_written bytes line_of IsText IsRefusal (Err refusal) (Ok ending) old new is refused answers says =
    (line_of refusal ++ codes "\n", rw says.0 refused, says.1)

pub answer_part : {S E : Type 0} (bytes : S → List ℕ) (line_of : E → List ℕ) (IsText IsRefusal : List ℕ → Type 0)
    (answered : Result S E) (old new : Option (List ℕ))
    → IfOk answered (λ text. IsText (bytes text)) → IfErr answered (λ refusal. IsRefusal (line_of refusal ++ codes "\n"))
    → IfOk answered (λ text. AppendsPart old new (bytes text))
    → IfErr answered (λ refusal. AppendsPart old new (line_of refusal ++ codes "\n"))
    → (text : List ℕ) × ((ending : Ending) × IsWrittenAs IsText IsRefusal ending text) × AppendsPart old new text
answer_part bytes line_of IsText IsRefusal (Ok text) old new is refused answers says = (bytes text, (Answered, is), answers)
answer_part bytes line_of IsText IsRefusal (Err refusal) old new is refused answers says =
    (line_of refusal ++ codes "\n", (Refused, refused), says)

-- the same where it answers a schedule
pub schedule_part : {S : Type 0} (bytes : S → List ℕ) (IsText : List ℕ → Type 0) (input : List ℕ) (answered : Result S ScheduleRefusal) (old new : Option (List ℕ))
    → IfOk answered (λ text. IsText (bytes text)) → IfErr answered (λ refusal. IsRefusalOf (lines input) refusal)
    → IfOk answered (λ text. AppendsPart old new (bytes text))
    → IfErr answered (λ refusal. AppendsPart old new (trace_text.refusal_text refusal ++ codes "\n"))
    → (text : List ℕ) × ((ending : Ending) × IsWrittenAs IsText (IsScheduleRefused input) ending text) × AppendsPart old new text
schedule_part bytes IsText input answered old new is refused =
    answer_part bytes trace_text.refusal_text IsText (IsScheduleRefused input) answered old new is (schedule_refused input answered refused)
