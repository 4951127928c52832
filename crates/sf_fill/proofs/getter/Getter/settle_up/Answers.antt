use Rattle.sf_fill.proofs.Seats.{settled_adds, settled_getter, settled_log}
use Rattle.sf_fill.proofs.getter.Getter.settle_up.Goals as goal

pub returns-clause-settled : goal.returns-clause-settled
returns-clause-settled g c = settled_getter c.self.inside.seat c.settle_up.new.self c.self.inside.loaders _ c.self.view_is c.settle_up.ensures.settled

pub returns-clause-adds : goal.returns-clause-adds
returns-clause-adds g c = settled_adds c.self.inside.seat c.settle_up.new.self c.self.inside.loaders _ c.self.view_is c.settle_up.ensures.settled

pub returns-clause-logged : goal.returns-clause-logged
returns-clause-logged g c = settled_log c.self.inside.seat c.settle_up.new.self c.self.inside.loaders _ c.self.view_is c.settle_up.ensures.logged
