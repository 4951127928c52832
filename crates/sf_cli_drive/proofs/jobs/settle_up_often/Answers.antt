use Rattle.std.proofs.Common.{rules, refl}
use Rattle.sf_cli_drive.proofs.Turning.{logs_nothing, settled_on}
use Rattle.sf_cli_drive.proofs.jobs.settle_up_often.Goals as goal

pub loop-init : goal.loop-init
loop-init g c = record { logs = logs_nothing c.args.getter.now; rest = refl }

pub returns-then-is_ok : goal.returns-then-is_ok
returns-then-is_ok g c =
    let tried = c.settle_up.ensures in
    let on = settled_on c.args.getter.now c.loop.getter c.settle_up.new.self _ c.loop.invariant.logs c.loop.invariant.rest tried.settled tried.adds tried.logged in
    record { logs = on.0; rest = on.1; done = search rules }

pub loop-preserved : goal.loop-preserved
loop-preserved g c =
    let tried = c.settle_up.ensures in
    let on = settled_on c.args.getter.now c.loop.getter c.settle_up.new.self _ c.loop.invariant.logs c.loop.invariant.rest tried.settled tried.adds tried.logged in
    record { logs = on.0; rest = on.1 }
