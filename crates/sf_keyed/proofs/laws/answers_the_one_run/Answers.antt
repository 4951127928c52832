use Rattle.sf_keyed.proofs.Headlines.{answers_the_one_run}
use Rattle.sf_keyed.proofs.laws.answers_the_one_run.Goals as goal

pub returns : goal.returns
returns c = answers_the_one_run
