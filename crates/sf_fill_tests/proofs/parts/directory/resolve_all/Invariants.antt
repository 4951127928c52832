use Rattle.std.proofs.Common.{◌≡◌}
use Rattle.sf_fill_tests.proofs.parts.directory.resolve_all.Given as goal

abbrev pub invariant-loop-step : goal.invariant-loop-step
invariant-loop-step l = l.desk.directory ≡ l.directory
