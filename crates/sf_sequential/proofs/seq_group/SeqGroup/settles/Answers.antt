-- settling keeps the group's promises
use Rattle.std.proofs.Common.{rules}
use Rattle.sf_sequential.proofs.KeptByCalls.{kept_settle}
use Rattle.sf_sequential.proofs.seq_group.SeqGroup.settles.Goals as goal

pub invariant_of-self-2 : goal.invariant_of-self-2
invariant_of-self-2 g c =
    rw c.in_default.ensures.ok
    (kept_settle g.K.PartialEq.eq _ c.args.caller c.args.call c.args.value c.args.joiners c.self.invariant (search rules) (search rules) (search rules))
