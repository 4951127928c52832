use Rattle.std.proofs.Common.{[]}
use Rattle.sf_group_steps.specs.Words.{key}
use Rattle.sf_group_steps.proofs.still_current.find_named.Given as goal

abbrev pub ghosts-load_turns : goal.ghosts-load_turns
ghosts-load_turns g a = record { word = key a.about.now; turns = λ _. [] }
