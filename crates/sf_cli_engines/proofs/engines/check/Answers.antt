-- a beginning of the one line is written
use Rattle.std.proofs.Common.{◌++◌, refl, codes}
use Rattle.sf_cli_engines.specs.Checking.{checked_text, ending_of}
use Rattle.sf_cli_engines.proofs.engines.check.Goals as goal

pub returns-in_err-write_line-clause-part : goal.returns-in_err-write_line-clause-part
returns-in_err-write_line-clause-part g c =
    (checked_text c.judge-checked.result ++ codes "\n", (ending_of c.judge-checked.result, (c.judge-checked.result, c.judge-checked.ensures, refl, refl)), c.write_line.ensures.part)

pub returns-clause-part : goal.returns-clause-part
returns-clause-part g c =
    (checked_text c.judge-checked.result ++ codes "\n", (ending_of c.judge-checked.result, (c.judge-checked.result, c.judge-checked.ensures, refl, refl)), c.write_line.ensures.part)
