use Rattle.std.specs.Prelude.{pos, vec_len}
use Rattle.sf_fill_keys.specs.Spaces.{space_of}
use Rattle.sf_fill_counters.specs.Totals.{names_of}
use Rattle.sf_fill_tests.proofs.bodies.missed.with_space.Given as goal

abbrev pub ghosts-with_all : goal.ghosts-with_all
ghosts-with_all g a = record { space = space_of a.space; group = a.parts.group; getters = vec_len a.parts.loaders; ledgers = names_of a.parts.ledgers; limit = pos 100 }
