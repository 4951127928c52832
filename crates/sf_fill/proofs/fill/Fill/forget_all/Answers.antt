use Rattle.sf_fill.proofs.Seats.{forgets_getter}
use Rattle.sf_fill.proofs.fill.Fill.forget_all.Goals as goal

pub returns : goal.returns
returns g c = forgets_getter _ _ _ _ c.getter.view_is _ _ c.forget_each.ensures
