use Rattle.sf_keyed.proofs.Naming.{short_names_below_long_ones}
use Rattle.sf_keyed.proofs.names.short_names_below_long_ones.Goals as goal

pub returns : goal.returns
returns c = short_names_below_long_ones
