use Rattle.sf_keyed.proofs.Headlines.{enters_the_open_call}
use Rattle.sf_keyed.proofs.laws.enters_the_open_call.Goals as goal

pub returns : goal.returns
returns c = enters_the_open_call
