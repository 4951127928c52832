use Rattle.std.proofs.Common.{[]}
use Rattle.sf_group_steps.specs.Words.{call}
use Rattle.sf_group_steps.specs.Cells.{give_one}
use Rattle.sf_group_steps.proofs.polling.bring_home.Given as goal

abbrev pub ghosts-load_cell : goal.ghosts-load_cell
ghosts-load_cell g a = record { word = call a.by; turns = λ _. []; handle = λ _. give_one a.by }
