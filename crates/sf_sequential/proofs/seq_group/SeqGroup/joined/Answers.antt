-- few callers joined a call
use Rattle.std.proofs.Common.{◌≤◌, arith}
use Rattle.sf_sequential.proofs.seq_group.SeqGroup.joined.Goals as goal
use Rattle.sf_words.specs.declared.limits.TheConstants.{LARGEST_CALLER}

pub overflow_cast-result : goal.overflow_cast-result
overflow_cast-result g c =
    let few : c.joined.result ≤ LARGEST_CALLER = rw (c.joined.ensures, c.events.ensures) (c.self.invariant.few_joined c.args.call) in
    omega arith
