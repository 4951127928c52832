-- what `sfctl steps` answers
use Rattle.std.specs.Prelude.{◌≡◌, ℕ, List}
use Rattle.std.specs.Str.Lines.{lines}
use Rattle.sf_steps.specs.declared.trace.Step.{Step}
use Rattle.sf_steps_text.specs.Played.{IsTraceOf}
use Rattle.sf_steps_text.specs.TraceText.{Outcome, trace_text}

-- the text that the steps of a schedule print
abbrev pub IsTraceText : List ℕ → List ℕ → Type 0
IsTraceText schedule text = (steps : List (Step Outcome)) × IsTraceOf (lines schedule) steps × (text ≡ trace_text steps)

-- the lines are a schedule, which has a picture; what the picture looks like, no clause says
abbrev pub HasPicture : List ℕ → Type 0
HasPicture schedule = (steps : List (Step Outcome)) × IsTraceOf (lines schedule) steps
