-- the recording that logs are merged into is judged, or the line that refuses them is written
use Rattle.std.proofs.Common.{ℕ, List, ◌++◌, inr, refl, sym, subst, codes}
use Rattle.sf_replay.specs.RecordText.{refusal_text}
use Rattle.sf_cli_engines.specs.Merging.{IsMergedText}
use Rattle.sf_cli_engines.specs.declared.ending.Ending.TheVariants.{Refused}
use Rattle.sf_cli_engines.proofs.CheckedLogs.{logs_written}
use Rattle.sf_cli_engines.proofs.engines.check_logs.Goals as goal

pub returns-in_err-write_line-in-Err-clause-part : goal.returns-in_err-write_line-in-Err-clause-part
returns-in_err-write_line-in-Err-clause-part g c =
    (refusal_text c.in-Err.refusal ++ codes "\n", (Refused, inr (refl, (c.in-Err.refusal, c.in-Err.ensures.refused, refl))), c.write_line.ensures.part)

pub returns-in_ok-write_line-in-Err-clause-part : goal.returns-in_ok-write_line-in-Err-clause-part
returns-in_ok-write_line-in-Err-clause-part g c =
    (refusal_text c.in-Err.refusal ++ codes "\n", (Refused, inr (refl, (c.in-Err.refusal, c.in-Err.ensures.refused, refl))), c.write_line.ensures.part)

pub returns-in-Ok-clause-written : goal.returns-in-Ok-clause-written
returns-in-Ok-clause-written g c =
    let is = subst (λ (t : List ℕ). IsMergedText c.args.input.now t) (sym c.as_bytes.ensures.value) c.in-Ok.ensures.merged in
    logs_written c.args.judged c.args.input.now c.as_bytes.result.now c.check_as.result _ is c.check_as.ensures.written
