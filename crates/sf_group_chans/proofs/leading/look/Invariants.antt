use Rattle.sf_group_steps.specs.Words.{key}
use Rattle.sf_group_steps.specs.Stands.{stage_in}
use Rattle.sf_group_chans.specs.Both.{look_turns}
use Rattle.sf_group_chans.proofs.leading.look.Given as goal

abbrev pub ghosts-load_turns : goal.ghosts-load_turns
ghosts-load_turns g a = record { word = key a.about.now.place; turns = λ _. look_turns (stage_in a.seat.now.me.0 a.by) a.about.now }
