use Rattle.std.proofs.Common.{◌≡◌, take}
use Rattle.sf_replay_timed.specs.InTime.{RespectsTime}
use Rattle.sf_replay_timed.proofs.LaterTimes.{Begun}
use Rattle.sf_replay_timed.proofs.respecting.respects_time.Given as goal

-- the times so far are respected, and none of them begins later than this
abbrev pub invariant-loop-time : goal.invariant-loop-time
invariant-loop-time l = RespectsTime (take l.time-index l.times) × Begun l.latest (take l.time-index l.times)
