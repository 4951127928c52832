-- a Forget of one call keeps the group's promises
use Rattle.std.proofs.Common.{rules}
use Rattle.sf_sequential.proofs.KeptByCalls.{kept_forget_call}
use Rattle.sf_sequential.proofs.seq_group.SeqGroup.forgets_call.Goals as goal

pub invariant_of-self-2 : goal.invariant_of-self-2
invariant_of-self-2 g c =
    rw c.in_ok-push.ensures.ok
    (kept_forget_call g.K.PartialEq.eq _ c.args.caller c.args.key c.args.call c.args.hit c.self.invariant (search rules) (search rules))
