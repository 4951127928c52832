use Rattle.std.proofs.Common.{◌≡◌, map, take}
use Rattle.std.specs.List.{filter_map}
use Rattle.sf_replay.specs.Merged.{own_key}
use Rattle.sf_replay.proofs.merging.keys_in_order.Given as goal

abbrev pub invariant-loop-event : goal.invariant-loop-event
invariant-loop-event g l = map (λ k. k.now) l.keys.items ≡ filter_map own_key (take l.event-index l.events)
