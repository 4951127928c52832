use Rattle.std.proofs.Common.{◌≡◌, map, take}
use Rattle.sf_replay.specs.Merged.{standing_of}
use Rattle.sf_replay.proofs.merging.standings.Given as goal

abbrev pub invariant-loop-event : goal.invariant-loop-event
invariant-loop-event g l = l.standings.items ≡ map (standing_of g.K.Ord.cmp l.events) (take l.event-index l.events)
