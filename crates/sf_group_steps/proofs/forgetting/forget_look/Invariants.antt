use Rattle.sf_group_steps.specs.Words.{key}
use Rattle.sf_group_steps.specs.Stands.{stage_in}
use Rattle.sf_group_steps.specs.Forgets.{forget_turns}
use Rattle.sf_group_steps.proofs.forgetting.forget_look.Given as goal

abbrev pub ghosts-load_turns : goal.ghosts-load_turns
ghosts-load_turns g a = record { word = key a.about.now.0; turns = λ _. forget_turns (stage_in a.seat.now.me.0 a.by) a.by a.about.now.0 a.about.now.1 }
