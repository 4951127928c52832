-- the first Settle of the call is shared, and an event that is lent comes back as it was
use Rattle.std.proofs.Common.{◌≡◌, ◌<◌, List, length, get_or, option_and_then, None, true, rules, ◌∙◌, ap}
use Rattle.std.specs.Prelude.{find}
use Rattle.sf_history.specs.declared.event.Event.{Event}
use Rattle.sf_history.specs.declared.event.Event.TheVariants.{Lead, Enter, Forget, ForgetCall, Settle, Handed}
use Rattle.sf_history.specs.History.{settles, result_in}
use Rattle.sf_history.specs.declared.call.CallId.{CallId}
use Rattle.sf_history.proofs.Settling.{found_here, none_yet, set_same}
use Rattle.sf_history.proofs.event.History.share_result.Goals as goal

settles_something : {K V : Type 0} (c : CallId) (e : Event K V) → settles c e ≡ true → result_in e ≡ None → ⊥
settles_something c (Lead by key call own) is none = cc
settles_something c (Enter by key call member) is none = cc
settles_something c (Forget by key closed) is none = cc
settles_something c (ForgetCall by key call hit) is none = cc
settles_something c (Settle by call result joiners) is none = cc
settles_something c (Handed by call) is none = cc

pub returns-in-Some-clause-shared : goal.returns-in-Some-clause-shared
returns-in-Some-clause-shared g c =
    let within : c.loop-event.event-index < length c.loop-event.event-items = search rules in
    let start : c.loop-event.event-items ≡ c.args.self.now = c.loop-event.invariant.0 ∙ search rules in
    found_here (settles c.args.settled) result_in c.loop-event.event-items c.loop-event.event-index c.event-item.result _ c.in-Some.value within c.loop-event.invariant.1 c.in_ok-value.ensures.shared c.in-Some.is
    ∙ ap (λ (z : List (Event g.row.K.Denot g.row.V.Denot)). option_and_then result_in (find (settles c.args.settled) z)) start

pub loop-event-preserved : goal.loop-event-preserved
loop-event-preserved g c =
    let within : c.loop-event.event-index < length c.loop-event.event-items = search rules in
    let same : c.share_settled.new.event ≡ get_or c.loop-event.event-items c.loop-event.event-index c.share_settled.new.event = search rules in
    let kept = set_same c.loop-event.event-items c.loop-event.event-index c.share_settled.new.event same in
    rw kept (
      c.loop-event.invariant.0,
      none_yet (settles c.args.settled) result_in c.loop-event.event-items c.loop-event.event-index c.event-item.result _ within c.loop-event.invariant.1
          c.in_ok-value.ensures.shared c.in_default.is (settles_something c.args.settled),
    )
