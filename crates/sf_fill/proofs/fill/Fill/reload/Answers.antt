use Rattle.sf_fill.specs.GetterValue.{with_loaders}
use Rattle.sf_fill.proofs.Fresh.{reloading}
use Rattle.sf_fill.proofs.LogSteps.{logs_once}
use Rattle.sf_fill.proofs.Seats.{reloaded_getter, settled_getter, settled_log}
use Rattle.sf_fill.proofs.fill.Fill.reload.Goals as goal

pub returns-clause-reloaded : goal.returns-clause-reloaded
returns-clause-reloaded g c =
    reloaded_getter _ _ _ _ c.getter.view_is _ _ _ (record { middle = c.settle_up-delivered.new.self; settled = c.settle_up-delivered.ensures.settled; reloaded = c.forget.ensures.reloaded; rest = c.forget.ensures.rest })

pub returns-clause-adds : goal.returns-clause-adds
returns-clause-adds g c =
    reloading _ _ _ _ _ (returns-clause-reloaded g c)
    (logs_once c.args.getter.now (with_loaders c.settle_up-delivered.new.self c.getter.inside.loaders) (with_loaders c.forget.new.seat c.getter.inside.loaders)
    (settled_getter c.getter.inside.seat c.settle_up-delivered.new.self c.getter.inside.loaders _ c.getter.view_is c.settle_up-delivered.ensures.settled) (settled_log c.getter.inside.seat c.settle_up-delivered.new.self c.getter.inside.loaders _ c.getter.view_is c.settle_up-delivered.ensures.logged) c.forget.ensures.logged)
