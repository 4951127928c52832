use Rattle.sf_fill.proofs.Told.{notes_carry_reloads}
use Rattle.sf_fill.proofs.getter.notes_carry_reloads.Goals as goal

pub returns : goal.returns
returns g c = notes_carry_reloads _ _
