use Rattle.std.specs.Prelude.{pos}
use Rattle.sf_fill_counters.specs.Nowhere.{no_group, no_ledgers}
use Rattle.sf_fill_keys.specs.Spaces.{space_of}
use Rattle.sf_fill_tests.proofs.bodies.missed.try_out.Given as goal

abbrev pub ghosts-with_space : goal.ghosts-with_space
ghosts-with_space g a = record { space = space_of a.space; group = no_group; getters = 0; ledgers = no_ledgers; limit = pos 0 }
