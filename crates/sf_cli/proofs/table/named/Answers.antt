-- what no row names is no subcommand's name
use Rattle.sf_cli.proofs.Names.{unlike}
use Rattle.sf_cli.proofs.table.named.Goals as goal

pub returns-in-None-clause-unknown : goal.returns-in-None-clause-unknown
returns-in-None-clause-unknown c = unlike c.args.name.now c.in-None.ensures.unknown
