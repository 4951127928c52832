use Rattle.std.proofs.Common.{arith, map, ◌∙◌, ap, subst, IsPermutation, Bor, List}
use Rattle.std.proofs.lemmas.Grind.{common_steps}
use Rattle.std.proofs.lemmas.List.{take_all}
use Rattle.std.proofs.lemmas.List.Elements.{filter_map-append}
use Rattle.std.proofs.lemmas.List.Sorted.{IsPermutation-map}
use Rattle.std.specs.List.{filter_map}
use Rattle.sf_replay.specs.Merged.{own_key}
use Rattle.sf_replay.proofs.merging.keys_in_order.Goals as goal
use Rattle.sf_replay.proofs.merging.keys_in_order.Goals.{in-Some+in_ok-push, in_default}

pub loop-event-preserved : goal.loop-event-preserved
loop-event-preserved g c =
    elim c.match-own_key.branch [ in-Some+in_ok-push w ↦ grind (arith, common_steps, filter_map-append) | in_default w ↦ grind (arith, common_steps, filter_map-append) ]

pub returns-clause-all : goal.returns-clause-all
returns-clause-all g c =
    let now = λ (b : Bor g.row.K.Denot). b.now in
    subst (λ (ks : List g.row.K.Denot). IsPermutation ks (map now c.sort.new.self.items)) (c.loop-event.invariant ∙ ap (filter_map own_key) (take_all c.loop-event.event-index c.args.events.now c.loop-event-test.false))
    (IsPermutation-map now _ _ c.sort.ensures.permutation)
