-- an asking keeps the group's promises
use Rattle.std.proofs.Common.{rules}
use Rattle.sf_sequential.proofs.KeptByCalls.{kept_lead, kept_enter}
use Rattle.sf_sequential.proofs.seq_group.SeqGroup.asks.Goals as goal

pub invariant_of-self-in-None : goal.invariant_of-self-in-None
invariant_of-self-in-None g c =
    rw c.in_ok-push-in-None.ensures.ok
    (kept_lead g.K.PartialEq.eq _ c.args.caller c.args.key c.args.id c.self.invariant (search rules) (search rules) (search rules) (search rules) (search rules))

pub invariant_of-self-in-Some : goal.invariant_of-self-in-Some
invariant_of-self-in-Some g c =
    rw c.in_ok-push-in-Some.ensures.ok
    (kept_enter g.K.PartialEq.eq _ c.args.caller c.args.key c.in-Some.call c.args.id c.self.invariant (search rules) (search rules) (search rules) (search rules) (search rules))
