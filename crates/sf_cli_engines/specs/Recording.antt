-- what `--history` prints: the records of a history
use Rattle.std.specs.Prelude.{◌≡◌, ℕ, List, nat_eq}
use Rattle.std.specs.Str.Lines.{lines}
use Rattle.sf_history.specs.Legal.{IsLegal}
use Rattle.sf_text.specs.Texts.{same_text}
use Rattle.sf_model.specs.ScriptText.{Script, IsRunOf}
use Rattle.sf_replay.specs.TextKeys.{with_text_keys}
use Rattle.sf_replay.specs.Written.{history_text}
use Rattle.sf_steps.specs.declared.trace.Step.{Step}
use Rattle.sf_steps_text.specs.Played.{IsTraceOf, events_in}
use Rattle.sf_steps_text.specs.TraceText.{Outcome}

-- the records of the history of the group that a script leaves, which is legal
abbrev pub IsScriptRecords : List ℕ → List ℕ → Type 0
IsScriptRecords input text = (replies : List ℕ) × (g : Script) × IsRunOf input replies g × IsLegal same_text g.history × (text ≡ history_text g.history)

-- the records of the events that the steps of a schedule add, which are a legal history; in records the key of a place is its number
abbrev pub IsScheduleRecords : List ℕ → List ℕ → Type 0
IsScheduleRecords schedule text = (steps : List (Step Outcome)) × IsTraceOf (lines schedule) steps
    × IsLegal nat_eq (events_in steps) × (text ≡ history_text (with_text_keys (events_in steps)))
