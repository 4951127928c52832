use Rattle.sf_fill_open.proofs.Opening.{opened}
use Rattle.sf_fill_open.proofs.door.with_all.Goals as goal

pub run-requires-clause-new : goal.run-requires-clause-new
run-requires-clause-new g c = opened _ _ _ _ _ _ _ c.in-Ok.ensures.made.1 c.requires.room c.requires.callers
