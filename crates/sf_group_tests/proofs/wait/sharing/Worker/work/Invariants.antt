use Rattle.std.proofs.Common.{◌≡◌}
use Rattle.sf_group_tests.proofs.wait.sharing.Worker.work.Given as goal

abbrev pub invariant-loop-done : goal.invariant-loop-done
invariant-loop-done g l = l.caller.group ≡ l.group
