use Rattle.sf_steps_laws.proofs.Letters.{letters_are_answers}
use Rattle.sf_steps_laws.proofs.Cells.{letters_arrive}
use Rattle.sf_steps_laws.proofs.laws.letters_are_answers.Goals as goal

pub returns-clause-answers : goal.returns-clause-answers
returns-clause-answers g c z p rest a m l is said = letters_are_answers z p rest a m l is said

pub returns-clause-arrive : goal.returns-clause-arrive
returns-clause-arrive g c z p a m l said = letters_arrive z p a m l said
