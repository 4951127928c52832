use Rattle.sf_fill_open.proofs.Opening.{opened}
use Rattle.sf_fill_open.proofs.team.with_all.Goals as goal

pub work_and_finish-requires-clause-new : goal.work_and_finish-requires-clause-new
work_and_finish-requires-clause-new g c κs within = opened _ _ _ _ _ _ _ c.in-Ok.ensures.made.1 c.requires.room c.requires.callers
