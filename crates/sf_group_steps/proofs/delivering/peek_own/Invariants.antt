use Rattle.std.proofs.Common.{[], ◌∷◌}
use Rattle.sf_steps_laws.specs.declared.turn.Turn.TheVariants.{Step}
use Rattle.sf_group_steps.specs.Words.{call}
use Rattle.sf_group_steps.specs.Cells.{take_one}
use Rattle.sf_group_steps.proofs.delivering.peek_own.Given as goal

abbrev pub ghosts-load_cell : goal.ghosts-load_cell
ghosts-load_cell g a = record { word = call a.about.now; turns = λ _. Step a.by ∷ []; handle = λ _. take_one a.about.now }
