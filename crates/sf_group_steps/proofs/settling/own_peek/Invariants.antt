use Rattle.sf_group_steps.specs.Words.{call}
use Rattle.sf_group_steps.specs.Stands.{stage_in}
use Rattle.sf_group_steps.specs.Settles.{settle_turns}
use Rattle.sf_group_steps.proofs.settling.own_peek.Given as goal

abbrev pub ghosts-load_turns : goal.ghosts-load_turns
ghosts-load_turns g a = record { word = call a.by; turns = λ _. settle_turns (stage_in a.seat.now.me.0 a.by) a.by a.about.now }
