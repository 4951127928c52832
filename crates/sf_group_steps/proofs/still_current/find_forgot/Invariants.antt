use Rattle.std.proofs.Common.{[]}
use Rattle.sf_group_steps.specs.Words.{call}
use Rattle.sf_group_steps.proofs.still_current.find_forgot.Given as goal

abbrev pub ghosts-load_turns : goal.ghosts-load_turns
ghosts-load_turns g a = record { word = call a.about.now.caller; turns = λ _. [] }
