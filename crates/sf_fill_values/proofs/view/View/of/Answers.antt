use Rattle.std.proofs.Common.{rules}
use Rattle.sf_fill_values.proofs.view.View.of.Goals as goal

-- Named, so that a wrong body is refused at once: a search that has no answer tries more.
pub returns-in-Ok-clause-answer : goal.returns-in-Ok-clause-answer
returns-in-Ok-clause-answer g c = search rules

pub returns-in-Ok-clause-same : goal.returns-in-Ok-clause-same
returns-in-Ok-clause-same g c = search rules
