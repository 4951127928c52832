use Rattle.std.proofs.Common.{string_bytes}
use Rattle.sf_replay.proofs.RoundTrip.{IsWritten}
use Rattle.sf_replay.proofs.writing.write.Given as goal

abbrev pub invariant-loop-event : goal.invariant-loop-event
invariant-loop-event l = IsWritten l.event-items l.event-index (string_bytes l.text)
