use Rattle.std.proofs.Common.{rules, ◌≡◌, ◌∙◌, ap, sym, subst, ◌++◌, ◌∷◌, [], map, take, option_map, IsPermutation, List, Bor}
use Rattle.std.proofs.lemmas.List.{map-append, take_more}
use Rattle.std.specs.BTreeMap.{get_by}
use Rattle.std.specs.List.{filter_map}
use Rattle.sf_history.specs.declared.event.Event.{Event}
use Rattle.sf_replay.specs.Entered.{compare_call}
use Rattle.sf_replay.specs.Merged.{key_of_call, own_key, place_among, standing_of}
use Rattle.sf_replay.proofs.MergedOrder.{standing_found}
use Rattle.sf_replay.proofs.merging.standings.Goals as goal

pub loop-event-preserved : goal.loop-event-preserved
loop-event-preserved g c =
    let es = c.args.events.now in
    let e = c.event-item.result in
    let done = take c.loop-event.event-index es in
    let f = standing_of g.K.Ord.cmp es in
    let now = λ (b : Bor g.row.K.Denot). b.now in
    let keys = c.as_slice-in-loop-event.result.now in
    let moved = subst (λ (ks : List (Bor g.row.K.Denot)). IsPermutation (filter_map own_key es) (map now ks)) (sym c.as_slice-in-loop-event.ensures.value) c.in_ok-keys.ensures.all in
    let stands = c.standing_of.ensures ∙ standing_found g.K.Ord.cmp es (map now keys) (λ call. get_by (compare_call call) c.in_ok-calls.calls) moved
    (λ q. c.in_ok-calls.ensures q ∙ ap (λ (ks : List (Bor g.row.K.Denot)). option_map (place_among g.K.Ord.cmp (map now ks)) (key_of_call es q)) (c.as_slice.ensures.value ∙ sym c.as_slice-in-loop-event.ensures.value)) e in
    let pushed : c.push.new.self.items ≡ c.loop-event.standings.items ++ c.standing_of.result ∷ [] = search rules in
    let grown = take_more es c.loop-event.event-index e c.loop-event-test.true ∙ ap (λ (x : Event g.row.K.Denot g.row.V.Denot). done ++ x ∷ []) (sym c.event-item.is) in
    pushed ∙ (λ i. c.loop-event.invariant i ++ stands i ∷ []) ∙ sym (map-append f done (e ∷ [])) ∙ ap (map f) (sym grown)
