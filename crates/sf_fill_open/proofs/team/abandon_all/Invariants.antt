use Rattle.std.specs.Prelude.{vec_len}
use Rattle.sf_fill_open.proofs.team.abandon_all.Given as goal

abbrev pub decreases-rest : goal.decreases-rest
decreases-rest g l = vec_len l.getters
