use Rattle.sf_replay_check.proofs.OneVerdict.{one_verdict}
use Rattle.sf_replay_check.proofs.checking.histories_have_one_verdict.Goals as goal

pub returns : goal.returns
returns g c = one_verdict _ _ g.K.PartialEq.eq
