-- exit statuses
use Rattle.std.specs.Prelude.{ℕ, Result, Ok, Err}
use Rattle.sf_text.specs.declared.stream.StreamFault.{StreamFault}
use Rattle.sf_cli_engines.specs.declared.ending.Ending.{Ending}
use Rattle.sf_cli_engines.specs.declared.ending.Ending.TheVariants.{Answered, Illegal, Incomplete, Refused}
use Rattle.sf_cli_engines.specs.declared.ending.Outcome.{Outcome}
use Rattle.sf_cli_engines.specs.declared.ending.Outcome.TheVariants.{Ended, Failed, Usage}

abbrev pub status_of : Ending → ℕ
status_of Answered = 0
status_of Illegal = 1
status_of Incomplete = 1
status_of Refused = 2

abbrev pub outcome_of : Result Ending StreamFault → Outcome
outcome_of (Ok ending) = Ended ending
outcome_of (Err fault) = Failed fault

-- a stream that failed and a command line that asks for nothing are neither an answer nor a verdict
abbrev pub exit_status_of : Outcome → ℕ
exit_status_of (Ended ending) = status_of ending
exit_status_of (Failed fault) = 2
exit_status_of Usage = 2
