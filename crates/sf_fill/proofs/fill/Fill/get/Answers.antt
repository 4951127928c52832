use Rattle.std.proofs.Common.{subst}
use Rattle.sf_fill_store.specs.Found.{DrawsWithin}
use Rattle.sf_fill.specs.Counted.{IsCounted}
use Rattle.sf_fill.specs.Fresh.{IsFreshGet}
use Rattle.sf_fill.specs.GetterValue.{GetterValue, with_loaders}
use Rattle.sf_fill.specs.Gets.{HasGot}
use Rattle.sf_fill.proofs.fill.Fill.get.Goals as goal

pub returns-clause-got : goal.returns-clause-got
returns-clause-got g c = λ _.
    subst (λ (x : GetterValue _). HasGot (g.L.LoadPath.run_gives c.args.key.now) (DrawsWithin g.N.Naming.limit g.L.LoadPath.draw_gives) g.N.Naming.space c.args.key.now x (with_loaders c.get_with.new.seat c.get_with.new.loaders) c.get_with.result)
    c.getter.view_is c.get_with.ensures.got

pub returns-clause-counted : goal.returns-clause-counted
returns-clause-counted g c = λ _. subst (λ (x : GetterValue _). IsCounted x (with_loaders c.get_with.new.seat c.get_with.new.loaders) c.get_with.result) c.getter.view_is c.get_with.ensures.counted

pub returns-clause-fresh : goal.returns-clause-fresh
returns-clause-fresh g c = λ _. subst (λ (x : GetterValue _). IsFreshGet g.N.Naming.space c.args.key.now x (with_loaders c.get_with.new.seat c.get_with.new.loaders) c.get_with.result) c.getter.view_is c.get_with.ensures.fresh
