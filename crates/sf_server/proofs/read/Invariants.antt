use Rattle.std.proofs.Common.{◌≡◌}
use Rattle.sf_server.proofs.read.Given as goal

-- the caller is of the group
abbrev pub invariant-loop-asking : goal.invariant-loop-asking
invariant-loop-asking g l = l.caller.group ≡ l.group
