use Rattle.std.proofs.Common.{◌<◌, ◌≤◌}
use Rattle.sf_keyed_chain.proofs.chain.KeyedChain.cells_at.Given as goal

abbrev pub invariant-loop : goal.invariant-loop
invariant-loop l = (0 < l.cells) × (l.cells ≤ 1048576)
