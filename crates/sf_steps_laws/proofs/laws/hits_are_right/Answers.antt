use Rattle.sf_steps_laws.proofs.Hits.{hits_are_right}
use Rattle.sf_steps_laws.proofs.laws.hits_are_right.Goals as goal

pub returns : goal.returns
returns g c z s t is = hits_are_right z s t is
