-- none of the rows' names is the name that no row has
use Rattle.std.proofs.Common.{rules}
use Rattle.sf_cli.proofs.Names.{no_name}
use Rattle.sf_cli.proofs.table.row_of.Goals as goal

pub returns-clause-unknown : goal.returns-clause-unknown
returns-clause-unknown c = no_name c.copied.result c.args.rows.now c.args.name.now (search rules)
