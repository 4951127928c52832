-- a beginning of the answer to a script is written
use Rattle.sf_cli_engines.proofs.Answered.{run_part}
use Rattle.sf_cli_engines.proofs.engines.run.Goals as goal

pub returns-in_err-run_script-clause-part : goal.returns-in_err-run_script-clause-part
returns-in_err-run_script-clause-part g c = run_part c.args.input.now _ _ c.run_script.ensures.part

pub returns-in-Ok-clause-part : goal.returns-in-Ok-clause-part
returns-in-Ok-clause-part g c = run_part c.args.input.now _ _ c.run_script.ensures.part

pub returns-in-Err-clause-part : goal.returns-in-Err-clause-part
returns-in-Err-clause-part g c = run_part c.args.input.now _ _ c.run_script.ensures.part
