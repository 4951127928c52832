use Rattle.std.proofs.Common.{string_bytes}
use Rattle.sf_replay.proofs.WrittenTimes.{IsTimedWritten}
use Rattle.sf_replay.proofs.writing.write_recording.Given as goal

abbrev pub invariant-loop-i : goal.invariant-loop-i
invariant-loop-i l = IsTimedWritten l.event-items l.times l.lost l.i (string_bytes l.text)
