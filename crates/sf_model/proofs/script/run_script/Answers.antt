-- what is written is a beginning of the refusal's line
use Rattle.std.proofs.Common.{◌++◌, inr, refl, codes}
use Rattle.std.proofs.lemmas.Result.{IfErr-at_err}
use Rattle.sf_model.specs.RefusalText.{refusal_text}
use Rattle.sf_model.proofs.script.run_script.Goals as goal

pub returns-in_err-write_line-in-Err-clause-part :
    goal.returns-in_err-write_line-in-Err-clause-part
returns-in_err-write_line-in-Err-clause-part g c =
    (refusal_text c.in-Err.refusal ++ codes "\n", inr (c.in-Err.refusal, IfErr-at_err _ c.in-Err.is c.answer.ensures.refused, refl), c.write_line.ensures.part)

pub returns-in_ok-write_line-in-Err-clause-part : goal.returns-in_ok-write_line-in-Err-clause-part
returns-in_ok-write_line-in-Err-clause-part g c =
    (refusal_text c.in-Err.refusal ++ codes "\n", inr (c.in-Err.refusal, IfErr-at_err _ c.in-Err.is c.answer.ensures.refused, refl), c.write_line.ensures.part)
