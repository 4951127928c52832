use Rattle.sf_keyed.proofs.Headlines.{shares_what_was_joined}
use Rattle.sf_keyed.proofs.laws.shares_what_was_joined.Goals as goal

pub returns : goal.returns
returns c = shares_what_was_joined
