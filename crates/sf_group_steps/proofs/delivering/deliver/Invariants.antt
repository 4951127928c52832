use Rattle.std.proofs.Common.{[], ◌∷◌}
use Rattle.sf_steps_laws.specs.declared.turn.Turn.TheVariants.{Step}
use Rattle.sf_group_steps.specs.Words.{call}
use Rattle.sf_group_steps.specs.Cells.{give_one}
use Rattle.sf_group_steps.proofs.delivering.deliver.Given as goal

abbrev pub ghosts-store_cell : goal.ghosts-store_cell
ghosts-store_cell g a = record { word = call a.about.now.caller; turns = λ _. Step a.by ∷ []; handle = λ _. give_one a.about.now.caller }
