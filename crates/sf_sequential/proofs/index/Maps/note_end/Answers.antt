use Rattle.std.proofs.Common.{None, refl}
use Rattle.sf_sequential.proofs.Maps.{key_updated}
use Rattle.sf_sequential.proofs.index.Maps.note_end.Goals as goal

pub returns : goal.returns
returns g c =
    record {
      current = key_updated g.K.Ord.cmp g.K.PartialEq.eq g.met.K.Ord.matches_eq c.args.self.now.current c.remove.new.self c.args.key.now (None) c.remove.ensures.updates;
      caller = λ b. refl;
      call = λ d. refl;
    }
