use Rattle.std.proofs.Common.{map}
use Rattle.sf_replay.proofs.Lines.{IsReading}
use Rattle.sf_replay.proofs.reading.history.Given as goal

abbrev pub invariant-loop-i : goal.invariant-loop-i
invariant-loop-i l = IsReading l.format (map (λ line. line.now) l.lines) l.i l.events.items l.entered l.times.items
