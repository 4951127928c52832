use Rattle.std.proofs.Common.{[], ◌∷◌}
use Rattle.sf_steps_laws.specs.declared.turn.Turn.TheVariants.{Step}
use Rattle.sf_group_steps.specs.Words.{call}
use Rattle.sf_group_steps.proofs.settling.close_own.Given as goal

abbrev pub ghosts-exchange_turns : goal.ghosts-exchange_turns
ghosts-exchange_turns g a = record { word = call a.about.now; turns = λ _. Step a.by ∷ [] }
