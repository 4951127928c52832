use Rattle.sf_group_steps.specs.Words.{key}
use Rattle.sf_group_steps.specs.Questions.{named_turns}
use Rattle.sf_group_steps.proofs.questions.ask_named.Given as goal

abbrev pub ghosts-load_turns : goal.ghosts-load_turns
ghosts-load_turns g a = record { word = key a.about.now; turns = λ _. named_turns a.by a.about.now }
