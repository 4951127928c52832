use Rattle.std.proofs.Common.{◌+◌, ◌-◌, ◌*◌, ◌<◌, length}
use Rattle.sf_keyed_chain.specs.Chains.{AllGoOn, IsOf}
use Rattle.sf_c_calls.proofs.Found.{lacks}
use Rattle.sf_c_calls.proofs.session.ask.Given as goal

abbrev pub invariant-loop-flight : goal.invariant-loop-flight
invariant-loop-flight l = IsOf l.chain l.me × AllGoOn l.fn.me l.me × (l.cell < 18446744073709551616)

abbrev pub decreases-loop-flight : goal.decreases-loop-flight
decreases-loop-flight l = 2 * (length l.chain - length l.me) + lacks l.me
