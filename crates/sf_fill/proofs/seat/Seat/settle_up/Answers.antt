use Rattle.std.proofs.Common.{rules}
use Rattle.sf_fill.proofs.Once.{logged_already, settled_already}
use Rattle.sf_fill.proofs.Seats.{logged_seat, none_owed, settled_seat}
use Rattle.sf_fill.proofs.seat.Seat.settle_up.Goals as goal

pub returns-then-not-owes-clause-settled : goal.returns-then-not-owes-clause-settled
returns-then-not-owes-clause-settled g c = settled_already c.args.self.now (none_owed _ _ _ _ _ c.self.view_is (search rules))

pub returns-then-not-owes-clause-logged : goal.returns-then-not-owes-clause-logged
returns-then-not-owes-clause-logged g c = logged_already c.args.self.now (none_owed _ _ _ _ _ c.self.view_is (search rules))

pub returns-clause-settled : goal.returns-clause-settled
returns-clause-settled g c = settled_seat _ _ _ _ _ c.self.view_is c.take_owing-settled.result c.take_owing-settled.ensures.taken _ _ c.deliver-chair.ensures.delivered

pub returns-clause-logged : goal.returns-clause-logged
returns-clause-logged g c = logged_seat _ _ _ _ _ c.self.view_is c.take_owing-settled.result c.take_owing-settled.ensures.taken _ _ c.deliver-chair.ensures.logged
