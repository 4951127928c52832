use Rattle.sf_fill.proofs.Told.{notes_carry_purges}
use Rattle.sf_fill.proofs.getter.notes_carry_purges.Goals as goal

pub returns : goal.returns
returns g c = notes_carry_purges _ _
