use Rattle.std.proofs.Common.{None}
use Rattle.sf_replay_check.proofs.Maps.{key_updated}
use Rattle.sf_replay_check.proofs.index.Index.forget_key.Goals as goal

pub returns-clause-current : goal.returns-clause-current
returns-clause-current g c = key_updated g.K.Ord.cmp g.K.PartialEq.eq g.met.K.Ord.matches_eq c.args.self.now.current c.remove.new.self c.args.key.now (None) c.remove.ensures.updates
