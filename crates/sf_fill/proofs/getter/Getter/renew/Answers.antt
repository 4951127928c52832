use Rattle.sf_fill.proofs.Seats.{renews_getter, seen_getter}
use Rattle.sf_fill.proofs.getter.Getter.renew.Goals as goal

pub returns-clause-renewed : goal.returns-clause-renewed
returns-clause-renewed g c = renews_getter c.self.inside.seat c.renew.new.self c.self.inside.loaders _ c.self.view_is _ _ _ c.renew.ensures.renewed

pub returns-clause-seen : goal.returns-clause-seen
returns-clause-seen g c = seen_getter c.self.inside.seat c.renew.new.self c.self.inside.loaders _ c.self.view_is c.renew.ensures.seen
