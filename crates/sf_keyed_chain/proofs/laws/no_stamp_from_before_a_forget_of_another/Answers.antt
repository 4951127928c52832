use Rattle.sf_keyed_chain.proofs.Headlines.{no_stamp_from_before_another}
use Rattle.sf_keyed_chain.proofs.laws.no_stamp_from_before_a_forget_of_another.Goals as goal

pub returns : goal.returns
returns c = no_stamp_from_before_another
