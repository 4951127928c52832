-- the law, at the keys' own equality
use Rattle.sf_history.proofs.LastLeads.{open_is_last}
use Rattle.sf_history.proofs.laws.open_call_is_last_lead.Goals as goal

pub returns : goal.returns
returns g c = open_is_last _ _ g.K.PartialEq.eq
