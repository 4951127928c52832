use Rattle.std.proofs.Common.{◌≡◌}
use Rattle.sf_group_tests.proofs.wait.busy.Asker.work.Given as goal

abbrev pub invariant-loop : goal.invariant-loop
invariant-loop g l = (l.caller.group ≡ l.group) × (l.second.group ≡ l.group)
