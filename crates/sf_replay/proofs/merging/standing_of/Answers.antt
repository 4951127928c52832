use Rattle.std.proofs.Common.{◌∙◌, ap, map}
use Rattle.std.specs.BTreeMap.{get_by}
use Rattle.sf_replay.specs.Entered.{compare_call}
use Rattle.sf_replay.specs.Merged.{idle_standing, place_among}
use Rattle.sf_replay.proofs.MergedOrder.{idle_is, missed_is}
use Rattle.sf_replay.proofs.merging.standing_of.Goals as goal

pub returns-in-None : goal.returns-in-None
returns-in-None g c =
    let at = c.in-Forget in
    idle_is (place_among g.K.Ord.cmp (map (λ k. k.now) c.args.keys.now)) (λ call. get_by (compare_call call) c.args.calls.now) c.args.event.now at.by at.key at.closed c.idle_standing.result at.is c.in-None.is
    (c.idle_standing.ensures ∙ ap (λ place. idle_standing _ place at.by) c.place_of.ensures)

pub returns-in-Missed : goal.returns-in-Missed
returns-in-Missed g c =
    let at = c.in-ForgetCall in
    missed_is (place_among g.K.Ord.cmp (map (λ k. k.now) c.args.keys.now)) (λ call. get_by (compare_call call) c.args.calls.now) c.args.event.now at.by at.key at.call at.hit c.idle_standing-in-Missed.result at.is c.in-Missed.is
    (c.idle_standing-in-Missed.ensures ∙ ap (λ place. idle_standing _ place at.by) c.place_of-in-Missed.ensures)
