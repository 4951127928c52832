-- taking a letter keeps the group's promises
use Rattle.std.proofs.Common.{rules}
use Rattle.sf_sequential.proofs.KeptByCalls.{kept_take}
use Rattle.sf_sequential.proofs.seq_group.SeqGroup.takes.Goals as goal

pub invariant_of-self-2 : goal.invariant_of-self-2
invariant_of-self-2 g c = rw c.in_ok-push.ensures.items (kept_take g.K.PartialEq.eq _ c.args.caller c.args.ticket c.self.invariant (search rules) (search rules))
