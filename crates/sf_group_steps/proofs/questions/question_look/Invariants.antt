use Rattle.std.proofs.Common.{[], ◌∷◌}
use Rattle.sf_steps_laws.specs.declared.turn.Turn.TheVariants.{Step}
use Rattle.sf_group_steps.specs.Words.{key}
use Rattle.sf_group_steps.proofs.questions.question_look.Given as goal

abbrev pub ghosts-load_turns : goal.ghosts-load_turns
ghosts-load_turns g a = record { word = key a.about.now; turns = λ _. Step a.by ∷ [] }
