use Rattle.std.proofs.Common.{Some, refl}
use Rattle.sf_sequential.proofs.Maps.{key_updated}
use Rattle.sf_sequential.proofs.index.Maps.lead_key.Goals as goal

pub returns : goal.returns
returns g c =
    record {
      current = key_updated g.K.Ord.cmp g.K.PartialEq.eq g.met.K.Ord.matches_eq c.args.self.now.current c.insert.new.self c.args.key.now (Some c.args.call) c.in_ok-insert.ensures.updates;
      caller = λ b. refl;
      call = λ d. refl;
    }
