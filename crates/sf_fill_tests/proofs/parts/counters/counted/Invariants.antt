use Rattle.std.specs.Prelude.{pos}
use Rattle.sf_fill_counters.specs.Nowhere.{no_space, no_group}
use Rattle.sf_fill_counters.specs.Totals.{names_of}
use Rattle.sf_fill_tests.proofs.parts.counters.counted.Given as goal

abbrev pub ghosts-two_getters : goal.ghosts-two_getters
ghosts-two_getters a = record { space = no_space; group = no_group; getters = 2; ledgers = names_of a.ledgers; limit = pos 0 }
