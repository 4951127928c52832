use Rattle.std.proofs.Common.{take}
use Rattle.sf_history.specs.Legal.{IsLegal}
use Rattle.sf_replay_check.proofs.checking.check.Given as goal

-- the events so far are legal
abbrev pub invariant-loop-i : goal.invariant-loop-i
invariant-loop-i g l = IsLegal g.K.PartialEq.eq (take l.i l.events)
