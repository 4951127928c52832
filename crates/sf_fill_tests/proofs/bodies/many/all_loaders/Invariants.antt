use Rattle.std.specs.Prelude.{◌≡◌, vec_len}
use Rattle.sf_fill_tests.proofs.bodies.many.all_loaders.Given as goal

abbrev pub invariant-loop-index : goal.invariant-loop-index
invariant-loop-index l = vec_len l.sets ≡ l.index
