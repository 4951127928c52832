-- the times so far are respected, and at the end all are
use Rattle.std.proofs.Common.{subst, take_all}
use Rattle.sf_replay_timed.specs.InTime.{RespectsTime}
use Rattle.sf_replay_timed.proofs.LaterTimes.{walked_more}
use Rattle.sf_replay_timed.proofs.respecting.respects_time.Goals as goal

pub loop-time-preserved : goal.loop-time-preserved
loop-time-preserved c =
    walked_more c.args.times.now c.loop-time.time-index c.known_or_any-time.result c.loop-time.latest c.max-latest.result c.loop-time-test.true c.known_or_any-time.ensures
    c.if-time-latest.false c.max-latest.ensures c.loop-time.invariant

pub returns : goal.returns
returns c = λ is. subst RespectsTime (take_all c.loop-time.time-index c.args.times.now c.loop-time-test.false) c.loop-time.invariant.0
