use Rattle.std.specs.Prelude.{vec_len}
use Rattle.sf_bench.proofs.filling.GetsTeam.finish.Given as goal

abbrev pub decreases-rest : goal.decreases-rest
decreases-rest g l = vec_len l.getters
