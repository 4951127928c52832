-- no event so far settles the call, and all are as they were
use Rattle.std.proofs.Common.{◌≡◌, take, None}
use Rattle.std.specs.Prelude.{find}
use Rattle.sf_history.specs.History.{settles}
use Rattle.sf_history.proofs.event.History.share_result.Given as goal

abbrev pub invariant-loop-event : goal.invariant-loop-event
invariant-loop-event g l = (l.event-items ≡ l.initial.event-items) × (find (settles l.settled) (take l.event-index l.event-items) ≡ None)
