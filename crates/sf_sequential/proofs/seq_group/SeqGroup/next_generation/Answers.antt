-- a caller's generations fit
use Rattle.sf_sequential.proofs.KeptByCalls.{below_two_64}
use Rattle.sf_sequential.proofs.seq_group.SeqGroup.next_generation.Goals as goal

pub next_generation-requires : goal.next_generation-requires
next_generation-requires g c = below_two_64 _ (rw c.events.ensures (c.self.invariant.within c.args.caller))
