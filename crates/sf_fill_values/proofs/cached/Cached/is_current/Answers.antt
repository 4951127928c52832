use Rattle.std.proofs.Common.{rules}
use Rattle.sf_fill_values.proofs.cached.Cached.is_current.Goals as goal

-- Named, so that a wrong body is refused at once: a search that has no answer tries more.
pub returns : goal.returns
returns g c = search rules
