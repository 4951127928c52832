use Rattle.std.proofs.Common.{Some}
use Rattle.sf_replay_check.proofs.Maps.{key_updated}
use Rattle.sf_replay_check.proofs.index.Index.lead_key.Goals as goal

pub returns-clause-current : goal.returns-clause-current
returns-clause-current g c = key_updated g.K.Ord.cmp g.K.PartialEq.eq g.met.K.Ord.matches_eq c.args.self.now.current c.insert.new.self c.args.key.now (Some c.args.call) c.in_ok-insert.ensures.updates
