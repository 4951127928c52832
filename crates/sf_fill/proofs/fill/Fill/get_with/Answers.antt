use Rattle.std.proofs.Common.{ap}
use Rattle.sf_fill.specs.GetterValue.{GetterValue, with_loaders}
use Rattle.sf_fill.specs.Owing.{HasSettledUp}
use Rattle.sf_fill.proofs.Fresh.{counted, fresh}
use Rattle.sf_fill.proofs.LogSteps.{logs_once}
use Rattle.sf_fill.proofs.Once.{got_once}
use Rattle.sf_fill.proofs.Seats.{settled_with}
use Rattle.sf_fill.proofs.fill.Fill.get_with.Goals as goal

pub returns-clause-got : goal.returns-clause-got
returns-clause-got g c = got_once _ _ _ _ _ _ _ _ (settled_with _ _ c.args.loaders.now c.settle_up-delivered.ensures.settled) c.get_once.ensures.got

pub returns-clause-counted : goal.returns-clause-counted
returns-clause-counted g c =
    counted _ _ _ _ _ _ _ (returns-clause-got g c)
    (logs_once (with_loaders c.args.seat.now c.args.loaders.now) (with_loaders c.settle_up-delivered.new.self c.args.loaders.now) (with_loaders c.get_once.new.seat c.get_once.new.loaders) (settled_with _ _ c.args.loaders.now c.settle_up-delivered.ensures.settled) c.settle_up-delivered.ensures.logged c.get_once.ensures.logged)

pub returns-clause-fresh : goal.returns-clause-fresh
returns-clause-fresh g c =
    fresh _ _ _ _ _ _ _ (returns-clause-got g c)
    (logs_once (with_loaders c.args.seat.now c.args.loaders.now) (with_loaders c.settle_up-delivered.new.self c.args.loaders.now) (with_loaders c.get_once.new.seat c.get_once.new.loaders) (settled_with _ _ c.args.loaders.now c.settle_up-delivered.ensures.settled) c.settle_up-delivered.ensures.logged c.get_once.ensures.logged)
