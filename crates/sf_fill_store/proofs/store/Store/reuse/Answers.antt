use Rattle.std.proofs.Common.{rules}
use Rattle.sf_fill_values.proofs.Looks.{follows_fit}
use Rattle.sf_fill_store.proofs.store.Store.reuse.Goals as goal

pub returns-in-Ok-clause-fits : goal.returns-in-Ok-clause-fits
returns-in-Ok-clause-fits g c = follows_fit c.args.flight.now c.learn.new.self c.in-Ok.letter c.into_parts-value.result.0 (search rules) (search rules) c.into_parts-value.ensures.value
