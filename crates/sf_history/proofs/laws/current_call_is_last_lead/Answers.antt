-- the law, at the keys' own equality
use Rattle.sf_history.proofs.LastLeads.{current_is_last}
use Rattle.sf_history.proofs.laws.current_call_is_last_lead.Goals as goal

pub returns : goal.returns
returns g c = current_is_last _ _ g.K.PartialEq.eq
