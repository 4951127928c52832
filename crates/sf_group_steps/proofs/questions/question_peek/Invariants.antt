use Rattle.sf_group_steps.specs.Words.{call}
use Rattle.sf_group_steps.specs.Questions.{question_turns}
use Rattle.sf_group_steps.proofs.questions.question_peek.Given as goal

abbrev pub ghosts-load_turns : goal.ghosts-load_turns
ghosts-load_turns g a = record { word = call a.about.now.1.caller; turns = λ _. question_turns a.by a.about.now.0 a.about.now.1 }
