use Rattle.sf_group_steps.specs.Words.{call}
use Rattle.sf_group_steps.proofs.LeadSteps.{lead_turns}
use Rattle.sf_group_steps.proofs.joining.enter.Given as goal

abbrev pub ghosts-exchange_turns : goal.ghosts-exchange_turns
ghosts-exchange_turns g a = record { word = call a.about.now.0; turns = lead_turns a.old a.by a.about.now.1 }
