-- a line that is no text is no command
use Rattle.std.proofs.lemmas.Str.{IsUtf8-from_ascii}
use Rattle.sf_model.specs.Reading.{IsReading}
use Rattle.sf_model.proofs.CommandAscii.{command_line_ascii}
use Rattle.sf_model.proofs.grammar.said.Goals as goal

pub returns-in-Err : goal.returns-in-Err
unfolding IsReading
returns-in-Err c = λ d is. c.in-Err.ensures.cases.0 (IsUtf8-from_ascii _ (command_line_ascii _ d is))
