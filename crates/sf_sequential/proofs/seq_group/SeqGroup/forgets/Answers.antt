-- a Forget keeps the group's promises
use Rattle.std.proofs.Common.{rules}
use Rattle.sf_sequential.proofs.KeptByCalls.{kept_forget}
use Rattle.sf_sequential.proofs.seq_group.SeqGroup.forgets.Goals as goal

pub invariant_of-self-2 : goal.invariant_of-self-2
invariant_of-self-2 g c =
    rw c.in_ok-push.ensures.ok
    (kept_forget g.K.PartialEq.eq _ c.args.caller c.args.key c.args.closed c.self.invariant (search rules) (search rules))

-- Named, so that a wrong body is refused at once: a search that has no answer tries more.
pub returns-clause-ok : goal.returns-clause-ok
returns-clause-ok g c = search rules
