use Rattle.std.specs.Prelude.{◌≡◌}
use Rattle.sf_bench.proofs.looking.learn_keys.Given as goal

abbrev pub invariant-loop-number : goal.invariant-loop-number
invariant-loop-number l = l.desk.directory ≡ l.directory
