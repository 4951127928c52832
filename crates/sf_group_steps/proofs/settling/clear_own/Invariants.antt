use Rattle.std.proofs.Common.{[], ◌∷◌}
use Rattle.sf_steps_laws.specs.declared.turn.Turn.TheVariants.{Step}
use Rattle.sf_group_steps.specs.Words.{key}
use Rattle.sf_group_steps.proofs.settling.clear_own.Given as goal

abbrev pub ghosts-exchange_turns : goal.ghosts-exchange_turns
ghosts-exchange_turns g a = record { word = key a.about.now; turns = λ _. Step a.by ∷ [] }
