use Rattle.sf_keyed_chain.proofs.Headlines.{no_stamp_from_before}
use Rattle.sf_keyed_chain.proofs.laws.no_stamp_from_before_a_forget.Goals as goal

pub returns : goal.returns
returns c = no_stamp_from_before
