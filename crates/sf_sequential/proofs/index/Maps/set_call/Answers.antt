use Rattle.std.proofs.Common.{refl}
use Rattle.sf_sequential.proofs.Maps.{call_updated}
use Rattle.sf_sequential.proofs.index.Maps.set_call.Goals as goal

pub returns : goal.returns
returns g c =
    record {
      current = λ k. refl;
      caller = λ b. refl;
      call = call_updated c.args.self.now.calls c.insert.new.self c.args.call c.args.row c.in_ok-insert.ensures.updates;
    }
