-- an asking with a channel keeps the group's promises
use Rattle.std.proofs.Common.{rules}
use Rattle.sf_sequential.proofs.KeptByCalls.{kept_lead_own, kept_enter}
use Rattle.sf_sequential.proofs.seq_group.SeqGroup.asks_chan.Goals as goal

pub invariant_of-self-in-None : goal.invariant_of-self-in-None
invariant_of-self-in-None g c =
    rw c.in_ok-push-in-None.ensures.ok
    (kept_lead_own g.K.PartialEq.eq _ c.args.caller c.args.second c.args.key _ _ c.self.invariant (search rules) (search rules) (search rules) (search rules) (search rules)
    (search rules) (search rules) (search rules) (search rules) (search rules))

pub invariant_of-self-in-Some : goal.invariant_of-self-in-Some
invariant_of-self-in-Some g c =
    rw c.in_ok-push-in-Some.ensures.ok
    (kept_enter g.K.PartialEq.eq _ c.args.second c.args.key c.in-Some.call _ c.self.invariant (search rules) (search rules) (search rules) (search rules) (search rules))
