use Rattle.std.proofs.Common.{◌≡◌, map, take, option_map}
use Rattle.std.specs.BTreeMap.{get_by}
use Rattle.sf_history.specs.declared.call.CallId.{CallId}
use Rattle.sf_replay.specs.Entered.{compare_call}
use Rattle.sf_replay.specs.Merged.{key_of_call, place_among}
use Rattle.sf_replay.proofs.merging.places_of_calls.Given as goal

abbrev pub invariant-loop-event : goal.invariant-loop-event
invariant-loop-event g l =
    (c : CallId) → get_by (compare_call c) l.calls ≡ option_map (place_among g.K.Ord.cmp (map (λ k. k.now) l.keys)) (key_of_call (take l.event-index l.events) c)
