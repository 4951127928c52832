-- the order that was found is legal and respects the times
use Rattle.std.proofs.Common.{subst}
use Rattle.sf_replay_timed.specs.InTime.{RespectsTime}
use Rattle.sf_replay_timed.proofs.judging.judge_in_time.Goals as goal

pub returns-then-respects_time : goal.returns-then-respects_time
returns-then-respects_time g c =
    record {
      once = c.in_ok-history.ensures.once;
      even = c.in_ok-history.ensures.even;
      legal = c.verdict_on.ensures.legal.0 c.in-Legal.is;
      in_time = subst RespectsTime c.as_slice-in-Legal.ensures.value (c.respects_time.ensures c.if-respects_time.true);
    }
