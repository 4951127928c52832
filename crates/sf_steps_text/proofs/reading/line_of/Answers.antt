-- a line that is no text says no turns
use Rattle.std.proofs.lemmas.Str.{IsUtf8-from_ascii}
use Rattle.sf_steps_text.specs.ScheduleText.{IsLine}
use Rattle.sf_steps_text.proofs.Ascii.{schedule_line_ascii}
use Rattle.sf_steps_text.proofs.reading.line_of.Goals as goal

pub returns-in-Err : goal.returns-in-Err
unfolding IsLine
returns-in-Err c = λ l is. c.in-Err.ensures.cases.0 (IsUtf8-from_ascii _ (schedule_line_ascii _ l is))
