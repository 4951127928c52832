use Rattle.sf_replay_check.proofs.Causes.{no_cause_may_follow}
use Rattle.sf_replay_check.proofs.checking.no_cause_may_follow.Goals as goal

pub returns : goal.returns
returns g c = no_cause_may_follow _ _ g.K.PartialEq.eq
