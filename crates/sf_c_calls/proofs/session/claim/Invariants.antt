use Rattle.std.proofs.Common.{◌≡◌, ◌+◌, ◌%◌}
use Rattle.sf_keyed_chain.specs.Chains.{AllGoOn, IsOf}
use Rattle.sf_c_calls.specs.Rows.{HasSearched}
use Rattle.sf_c_calls.proofs.session.claim.Given as goal

abbrev pub invariant-loop : goal.invariant-loop
invariant-loop l = IsOf l.chain l.me × AllGoOn l.fn.me l.me × HasSearched l.counter l.fn.cell l.fn.me l.me × (l.cell ≡ (l.fn.cell + l.counter) % 18446744073709551616)
