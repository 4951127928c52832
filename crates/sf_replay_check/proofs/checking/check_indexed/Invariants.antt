use Rattle.std.proofs.Common.{take}
use Rattle.sf_replay_check.specs.IndexMaps.{noted_in}
use Rattle.sf_replay_check.proofs.Noting.{Notes}
use Rattle.sf_replay_check.proofs.checking.check_indexed.Given as goal

abbrev pub invariant-loop-i : goal.invariant-loop-i
invariant-loop-i g l = Notes g.K.PartialEq.eq (take l.i l.events) (noted_in g.K.Ord.cmp l.index)
