use Rattle.sf_keyed.proofs.Headlines.{settles_once}
use Rattle.sf_keyed.proofs.laws.settles_once.Goals as goal

pub returns : goal.returns
returns c = settles_once
