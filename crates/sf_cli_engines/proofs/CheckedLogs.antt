-- what is written of merged logs is what is written of the recording
use Rattle.std.proofs.Common.{ℕ, List, Result, Ok, Err, IfOk, inl}
use Rattle.sf_text.specs.declared.stream.StreamFault.{StreamFault}
use Rattle.sf_cli_engines.specs.Engines.{IsCheckedAs, IsLogsCheckedAs}
use Rattle.sf_cli_engines.specs.Merging.{IsMergedText}
use Rattle.sf_cli_engines.specs.declared.ending.Ending.{Ending}
use Rattle.sf_cli_engines.specs.declared.engine.Judged.{Judged}

pub logs_written : (judged : Judged) (input merged : List ℕ) (ended : Result Ending StreamFault) (IsWritten : List ℕ → Type 0)
    → IsMergedText input merged
    → IfOk ended (λ ending. (text : List ℕ) × IsCheckedAs judged merged ending text × IsWritten text)
    → IfOk ended (λ ending. (text : List ℕ) × IsLogsCheckedAs judged input ending text × IsWritten text)
logs_written judged input merged (Ok ending) IsWritten is written = (written.0, inl (merged, is, written.1), written.2)
logs_written judged input merged (Err fault) IsWritten is written = tt
