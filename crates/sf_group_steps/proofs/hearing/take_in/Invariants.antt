use Rattle.std.proofs.Common.{[]}
use Rattle.sf_group_steps.specs.Words.{call}
use Rattle.sf_group_steps.proofs.hearing.take_in.Given as goal

abbrev pub ghosts-load_turns : goal.ghosts-load_turns
ghosts-load_turns g a = record { word = call a.by; turns = λ _. [] }
