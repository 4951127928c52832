use Rattle.sf_keyed.proofs.Naming.{short_keys_apart}
use Rattle.sf_keyed.proofs.names.short_keys_apart.Goals as goal

pub returns : goal.returns
returns c = short_keys_apart
