-- a witness has a picture
use Rattle.std.proofs.Common.{rules}
use Rattle.sf_cli_engines.proofs.Drawings.{shown_by_picture}
use Rattle.sf_cli_engines.proofs.drawing.witness_of.Goals as goal

pub returns-in-Whole-NoOrder-clause-found : goal.returns-in-Whole-NoOrder-clause-found
returns-in-Whole-NoOrder-clause-found c = λ _ text picture. shown_by_picture c.args.checked (search rules) text picture

pub returns-in-Whole-NoOrder-2-clause-found : goal.returns-in-Whole-NoOrder-2-clause-found
returns-in-Whole-NoOrder-2-clause-found c = λ _ text picture. shown_by_picture c.args.checked (search rules) text picture
