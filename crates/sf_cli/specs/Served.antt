-- how a subcommand ends on its streams, and the exit status that comes of it
use Rattle.std.specs.Prelude.{◌≡◌, ◌≢◌, ℕ, List, Option, Result, Ok, Err, IfOk, IfErr, IfSome, OnOk, codes, string_bytes}
use Rattle.std.specs.Io.KnownBytes.{Appends}
use Rattle.sf_text.specs.StreamText.{AppendsPart}
use Rattle.sf_text.specs.declared.stream.StreamFault.{StreamFault}
use Rattle.sf_text.specs.declared.stream.StreamFault.TheVariants.{CannotRead, CannotWrite}
use Rattle.sf_cli_engines.specs.declared.ending.Ending.{Ending}
use Rattle.sf_cli_engines.specs.declared.ending.Outcome.TheVariants.{Failed, Usage}
use Rattle.sf_cli_engines.specs.Ending.{exit_status_of, outcome_of}
use Rattle.sf_cli_engines.specs.Engines.{IsWrittenBy, IsAnswerOf}
use Rattle.sf_cli_engines.specs.declared.engine.Engine as engine
use Rattle.sf_cli_drive.specs.declared.line.DriveLine.{DriveLine}
use Rattle.sf_cli_drive.specs.declared.report.DriveEnding.{DriveEnding}
use Rattle.sf_cli_drive.specs.declared.report.DriveEnding.TheVariants.{OutOfMemory}
use Rattle.sf_cli_drive.specs.declared.report.Report.{Report}
use Rattle.sf_cli_drive.specs.Found.{DriveEvent, IsFound, IsSaid, said_text}
use Rattle.sf_cli_drive.specs.Reports.{ending_of, status_of}
use Rattle.sf_cli.specs.declared.usage.Subcommand.{Subcommand}
use Rattle.sf_cli.specs.declared.usage.Subcommand.TheVariants.{Engine, Drive}
use Rattle.sf_cli.specs.declared.usage.Usage as usage
use Rattle.sf_cli.specs.declared.usage.Usage.TheVariants.{Help, Mistake}

-- how an engine ended that had this to read, where this was written before and after: what it answered is written, nothing
-- where it could not read, or a beginning of an answer
abbrev pub HasEnded : engine.Engine → Option (List ℕ) → Option (List ℕ) → Option (List ℕ) → Result Ending StreamFault → Type 0
HasEnded e remaining old new ended =
    IfOk ended (λ ending. IfSome remaining (λ input. (text : List ℕ) × IsWrittenBy e input ending text × Appends old new text))
    × (IfErr ended (λ fault. fault ≡ CannotRead → new ≡ old)
    × IfErr ended (λ fault. fault ≡ CannotWrite → IfSome remaining (λ input. (text : List ℕ) × IsAnswerOf e input text × AppendsPart old new text)))

-- the same of a drive: what it found, the one line of its want of memory, or a beginning of such a text
abbrev pub HasDriven : DriveLine → Option (List ℕ) → Option (List ℕ) → Result DriveEnding StreamFault → Type 0
HasDriven line old new driven =
    IfOk driven (λ ending. ending ≢ OutOfMemory → (report : Report) × (history : List DriveEvent)
    × IsFound line report history × (ending ≡ ending_of report)
    × Appends old new (said_text line.history report history))
    × IfOk driven (λ ending. ending ≡ OutOfMemory → Appends old new (codes "out of memory\n"))
    × IfErr driven (λ fault. fault ≡ CannotWrite)
    × ((text : List ℕ) × IsSaid line text × AppendsPart old new text)

-- the exit status of a drive: that of its end, and 2 where a stream failed
abbrev pub drive_exit_status_of : Result DriveEnding StreamFault → ℕ
drive_exit_status_of (Ok ending) = status_of ending
drive_exit_status_of (Err fault) = exit_status_of (Failed fault)

-- the same of help or the version: 0 where it was written
abbrev pub help_exit_status_of : Result (Unit {0}) StreamFault → ℕ
help_exit_status_of (Ok written) = 0
help_exit_status_of (Err fault) = exit_status_of (Failed fault)

-- a text that is asked for is written, or a beginning of it where that fails
abbrev pub HasHelped : List ℕ → Option (List ℕ) → Option (List ℕ) → Result (Unit {0}) StreamFault → Type 0
HasHelped text old new written = OnOk written (Appends old new text) × AppendsPart old new text

-- the exit status of what was asked for, by how that ended; where the words are wrong, nothing is written
abbrev pub IsStatusOf : Result Subcommand usage.Usage → Option (List ℕ) → Option (List ℕ) → Option (List ℕ) → ℕ → Type 0
IsStatusOf (Ok (Engine e)) remaining old new status =
    (ended : Result Ending StreamFault) × HasEnded e remaining old new ended × (status ≡ exit_status_of (outcome_of ended))
IsStatusOf (Ok (Drive line)) remaining old new status =
    (driven : Result DriveEnding StreamFault) × HasDriven line old new driven × (status ≡ drive_exit_status_of driven)
IsStatusOf (Err (Help text)) remaining old new status =
    (written : Result (Unit {0}) StreamFault) × HasHelped (string_bytes text) old new written × (status ≡ help_exit_status_of written)
IsStatusOf (Err (Mistake mistake)) remaining old new status = (status ≡ exit_status_of Usage) × (new ≡ old)
