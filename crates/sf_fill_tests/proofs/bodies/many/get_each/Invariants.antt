use Rattle.std.specs.Prelude.{vec_len}
use Rattle.sf_fill_tests.proofs.bodies.many.get_each.Given as goal

abbrev pub decreases-each : goal.decreases-each
decreases-each g l = vec_len l.getters
