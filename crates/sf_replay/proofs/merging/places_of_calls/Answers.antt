use Rattle.std.proofs.Common.{◌∙◌, ap, sym, ◌++◌, ◌∷◌, [], map, take, option_map, List}
use Rattle.std.proofs.lemmas.List.{take_more}
use Rattle.std.specs.BTreeMap.{get_by}
use Rattle.std.specs.Prelude.{is_some}
use Rattle.sf_history.specs.declared.event.Event.{Event}
use Rattle.sf_replay.specs.Entered.{compare_call}
use Rattle.sf_replay.specs.Merged.{key_of_call, place_among}
use Rattle.sf_replay.proofs.MergedOrder.{copied_is_some, led_again, led_new, led_not}
use Rattle.sf_replay.proofs.merging.places_of_calls.Goals as goal
use Rattle.sf_replay.proofs.merging.places_of_calls.Goals.{in-Lead+then-is_none+in_ok-insert, in-Lead+else-is_none, in_default}

pub loop-event-preserved : goal.loop-event-preserved
loop-event-preserved g c =
    let place = place_among g.K.Ord.cmp (map (λ k. k.now) c.args.keys.now) in
    let es = take c.loop-event.event-index c.args.events.now in
    let grown = take_more c.args.events.now c.loop-event.event-index c.event-item.result c.loop-event-test.true ∙ ap (λ (e : Event g.row.K.Denot g.row.V.Denot). es ++ e ∷ []) (sym c.event-item.is) in
    let known = λ (call : _) (more : List (Event g.row.K.Denot g.row.V.Denot)). option_map place (key_of_call more call) in
    elim c.match-event.branch [
      | in-Lead+then-is_none+in_ok-insert w ↦
          λ q. ap (get_by (compare_call q)) w.calls-is
          ∙ led_new place c.loop-event.calls w.insert.new.self es w.in-Lead.by w.in-Lead.key w.in-Lead.call w.in-Lead.own w.place_of.result c.loop-event.invariant
          (ap is_some (sym w.get.ensures.value) ∙ copied_is_some w.get.result ∙ w.if-is_none.ensures) w.place_of.ensures w.in_ok-insert.ensures.updates q
          ∙ ap (known q) (sym (grown ∙ ap (λ (e : Event g.row.K.Denot g.row.V.Denot). es ++ e ∷ []) w.in-Lead.is))
      | in-Lead+else-is_none w ↦
          λ q. ap (get_by (compare_call q)) w.calls-is
          ∙ led_again place c.loop-event.calls es w.in-Lead.by w.in-Lead.key w.in-Lead.call w.in-Lead.own c.loop-event.invariant
          (ap is_some (sym w.get.ensures.value) ∙ copied_is_some w.get.result ∙ w.if-is_none.ensures) q
          ∙ ap (known q) (sym (grown ∙ ap (λ (e : Event g.row.K.Denot g.row.V.Denot). es ++ e ∷ []) w.in-Lead.is))
      | in_default w ↦
          λ q. ap (get_by (compare_call q)) w.calls-is ∙ led_not place c.loop-event.calls es c.event-item.result w.in_default.not-Lead c.loop-event.invariant q ∙ ap (known q) (sym grown)
    ]
