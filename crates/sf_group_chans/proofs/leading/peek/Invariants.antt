use Rattle.std.proofs.Common.{[], ◌∷◌}
use Rattle.sf_steps_laws.specs.declared.turn.Turn.TheVariants.{Step}
use Rattle.sf_group_steps.specs.Words.{call}
use Rattle.sf_group_chans.proofs.leading.peek.Given as goal

abbrev pub ghosts-load_turns : goal.ghosts-load_turns
ghosts-load_turns g a = record { word = call a.about.now.caller; turns = λ _. Step a.by ∷ [] }
