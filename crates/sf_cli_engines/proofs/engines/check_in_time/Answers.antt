-- a beginning of the one line is written
use Rattle.std.proofs.Common.{◌++◌, refl, codes}
use Rattle.sf_cli_engines.specs.Timing.{timed_text, timed_ending_of}
use Rattle.sf_cli_engines.proofs.engines.check_in_time.Goals as goal

pub returns-in_err-write_line-clause-part : goal.returns-in_err-write_line-clause-part
returns-in_err-write_line-clause-part g c =
    (timed_text c.judge_times-checked.result ++ codes "\n", (timed_ending_of c.judge_times-checked.result, (c.judge_times-checked.result, c.judge_times-checked.ensures, refl, refl)), c.write_line.ensures.part)

pub returns-clause-part : goal.returns-clause-part
returns-clause-part g c =
    (timed_text c.judge_times-checked.result ++ codes "\n", (timed_ending_of c.judge_times-checked.result, (c.judge_times-checked.result, c.judge_times-checked.ensures, refl, refl)), c.write_line.ensures.part)
