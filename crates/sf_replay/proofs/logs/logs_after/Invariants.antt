use Rattle.std.proofs.Common.{map}
use Rattle.sf_replay.specs.Logs.{nothing_read, with_lost}
use Rattle.sf_replay.proofs.Logging.{IsLogging}
use Rattle.sf_replay.proofs.logs.logs_after.Given as goal

abbrev pub invariant-loop-i : goal.invariant-loop-i
invariant-loop-i l =
    IsLogging (map (λ line. line.now) l.lines) (with_lost nothing_read l.said) l.first l.i l.format (record { events = l.events.items; times = l.times.items; lost = l.lost }) l.entered
