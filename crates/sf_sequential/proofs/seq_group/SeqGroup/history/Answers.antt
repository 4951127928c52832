-- what the history says of each caller
use Rattle.sf_sequential.proofs.KeptByCalls.{led_call_leads, held_ticket_holds}
use Rattle.sf_sequential.proofs.seq_group.SeqGroup.history.Goals as goal

pub returns-clause-leads : goal.returns-clause-leads
returns-clause-leads g c = rw (← c.self.view_is) (led_call_leads g.K.PartialEq.eq _ c.self.invariant)

pub returns-clause-holds : goal.returns-clause-holds
returns-clause-holds g c = rw (← c.self.view_is) (held_ticket_holds g.K.PartialEq.eq _ c.self.invariant)
