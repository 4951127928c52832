use Rattle.std.specs.Prelude.{pos}
use Rattle.sf_fill_counters.specs.Nowhere.{no_group, no_ledgers}
use Rattle.sf_fill_keys.specs.Spaces.{space_of}
use Rattle.sf_hostile_tests.proofs.pair.refused_parts_come_back.Given as goal

abbrev pub ghosts-check_parts : goal.ghosts-check_parts
ghosts-check_parts g a = record { space = space_of a.space; group = no_group; getters = 0; ledgers = no_ledgers; limit = pos 0 }
