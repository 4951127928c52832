-- taking a letter keeps the group's promises
use Rattle.std.proofs.Common.{◌≡◌, [], ◌∷◌, ◌++◌, rules}
use Rattle.sf_sequential.proofs.KeptByCalls.{kept_take}
use Rattle.sf_sequential.proofs.seq_group.SeqGroup.take.Goals as goal

pub invariant_of-self-2 : goal.invariant_of-self-2
invariant_of-self-2 g c =
    let taken : c.push.new.self.items ≡ c.self.inside.taken.items ++ c.in-Some.ticket.member ∷ [] = search rules in
    rw (c.share_result.ensures.same, taken) (kept_take g.K.PartialEq.eq _ c.args.caller c.in-Some.ticket c.self.invariant (search rules) (search rules))
