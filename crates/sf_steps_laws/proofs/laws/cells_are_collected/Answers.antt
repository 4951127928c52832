use Rattle.sf_steps_laws.proofs.Cells.{cells_are_collected, first_letters_are_collected}
use Rattle.sf_steps_laws.proofs.laws.cells_are_collected.Goals as goal

pub returns-clause-collected : goal.returns-clause-collected
returns-clause-collected g c z p between a b m n l k is same first next = cells_are_collected z p between a b m n l k is same first next

pub returns-clause-that_letter : goal.returns-clause-that_letter
returns-clause-that_letter g c z p between a b m n l k is same first next = first_letters_are_collected z p between a b m n l k is same first next
