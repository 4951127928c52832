use Rattle.std.proofs.Common.{[], ◌∷◌}
use Rattle.sf_steps_laws.specs.declared.turn.Turn.TheVariants.{Step}
use Rattle.sf_group_steps.specs.Words.{call}
use Rattle.sf_group_chans.proofs.joining.ready_join.Given as goal

abbrev pub ghosts-store_turns : goal.ghosts-store_turns
ghosts-store_turns g a = record { word = call a.about.now.second; turns = λ _. Step a.by ∷ [] }
