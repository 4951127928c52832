use Rattle.std.proofs.Common.{[], ◌∷◌}
use Rattle.sf_steps_laws.specs.declared.turn.Turn.TheVariants.{Step}
use Rattle.sf_group_steps.specs.Words.{next}
use Rattle.sf_group_chans.proofs.joining.link.Given as goal

abbrev pub ghosts-store_turns : goal.ghosts-store_turns
ghosts-store_turns g a = record { word = next a.about.now.second; turns = λ _. Step a.by ∷ [] }
