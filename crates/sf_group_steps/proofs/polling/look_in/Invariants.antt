use Rattle.std.proofs.Common.{[], ◌∷◌}
use Rattle.sf_steps_laws.specs.declared.operation.Op.TheVariants.{Poll}
use Rattle.sf_steps_laws.specs.declared.turn.Turn.TheVariants.{Start, Step}
use Rattle.sf_group_steps.specs.Words.{call}
use Rattle.sf_group_steps.specs.Collects.{collects}
use Rattle.sf_group_steps.proofs.polling.look_in.Given as goal

abbrev pub ghosts-load_cell : goal.ghosts-load_cell
ghosts-load_cell g a = record { word = call a.by; turns = λ _. Start a.by Poll ∷ Step a.by ∷ []; handle = collects a.by a.about.now }
