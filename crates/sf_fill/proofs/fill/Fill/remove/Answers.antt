use Rattle.std.proofs.Common.{ap, ◌∙◌}
use Rattle.sf_fill.specs.GetterValue.{GetterValue}
use Rattle.sf_fill.proofs.Spots.{found_spot}
use Rattle.sf_fill.proofs.fill.Fill.remove.Goals as goal

pub returns-clause-found : goal.returns-clause-found
returns-clause-found g c =
    found_spot _ _ _ _ _ _ _ _ c.self.invariant.1 (ap (λ (x : GetterValue (Unit {0})). x.desk) c.seat.view_is ∙ ap (λ (x : GetterValue _). x.desk) c.getter.view_is) c.in-Ok.is c.find.ensures.found
