use Rattle.sf_keyed_chain.proofs.Headlines.{enters_the_open_call}
use Rattle.sf_keyed_chain.proofs.laws.enters_the_open_call.Goals as goal

pub returns : goal.returns
returns c = enters_the_open_call
