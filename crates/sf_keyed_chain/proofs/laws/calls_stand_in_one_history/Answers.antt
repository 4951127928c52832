use Rattle.sf_keyed_chain.proofs.OneHistories.{calls_stand_in_one_history}
use Rattle.sf_keyed_chain.proofs.laws.calls_stand_in_one_history.Goals as goal

pub returns : goal.returns
returns c = calls_stand_in_one_history
