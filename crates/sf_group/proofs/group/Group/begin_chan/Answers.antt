use Rattle.std.proofs.Common.{◌≡◌, ◌≤◌, ◌∙◌, [], ◌∷◌, Some, refl, sym, ap, subst, arith, ◌+◌}
use Rattle.sf_history.specs.declared.event.Event.TheVariants as event
use Rattle.sf_steps_laws.specs.declared.operation.Stage.TheVariants as stage
use Rattle.sf_steps_laws.specs.Schedules.{IsPlace}
use Rattle.sf_group_rows.specs.declared.sizes.Sizes.{Sizes}
use Rattle.sf_group_rows.specs.declared.outcomes.ChanBegun.TheVariants as begun
use Rattle.sf_group_rows.specs.declared.outcomes.NotBegun.TheVariants as not_begun
use Rattle.sf_group_rows.specs.Tokens.{GroupValue, CallerValue, FlightValue, TicketValue}
use Rattle.sf_group_rows.specs.Begins.{HasChanBegun, AreRefusedSpent}
use Rattle.sf_group_steps.specs.declared.asking.AskAttempt.{AskAttempt}
use Rattle.sf_group_steps.specs.View.{setting_of, sizes_of}
use Rattle.sf_group_steps.specs.Stands.{next_in, Goes}
use Rattle.sf_group_chans.specs.declared.askers.Askers.{Askers}
use Rattle.sf_group_chans.specs.Changes.{HaveChanged}
use Rattle.sf_group_chans.specs.Together.{HasAsked}
use Rattle.sf_group.specs.Known.{caller_of, flight_of, ticket_of}
use Rattle.sf_group_steps.specs.Exchanges.{exchanges_of, HasExchanged}
use Rattle.sf_group_chans.specs.Exchanges.{HaveAskedSo}
use Rattle.sf_group.specs.Calls.{HasTriedAtMost, HasNotBegunChan}
use Rattle.sf_group.proofs.Rows.{sizes_are, first_least, follows_now, few_row}
use Rattle.sf_group.proofs.ChanRows.{led_chan_row, joined_chan_row, busy_chan_row, spent_chan_row}
use Rattle.sf_group.proofs.group.Group.begin_chan.Goals as goal

pub returns-in_default-clause-refused : goal.returns-in_default-clause-refused
returns-in_default-clause-refused g c =
    let one = c.caller.inside.seated in
    let two = c.second.inside.seated in
    subst (λ (x : CallerValue _). AreRefusedSpent x c.args.second x c.args.second) c.caller.view_is
    (subst (λ (y : CallerValue _). AreRefusedSpent (caller_of one.seat.table_id one.seat.me.0 one.number) y (caller_of one.seat.table_id one.seat.me.0 one.number) y) c.second.view_is
    (spent_chan_row one.seat.table_id two.seat.table_id one.number two.number one.next two.next one.seat.me.0 two.seat.me.0 c.caller.invariant.0 c.caller.invariant.1 c.second.invariant.0 c.second.invariant.1 c.in_default.ensures.spent))

pub ask_together-attempt-requires-clause-askers : goal.ask_together-attempt-requires-clause-askers
ask_together-attempt-requires-clause-askers g c =
    let one = c.caller.inside.seated in
    let two = c.second.inside.seated in
    let same : sizes_of one.seat.me.0 ≡ c.self.inside.sizes = ap (λ (x : CallerValue _). x.group.sizes) c.caller.view_is ∙ ap (λ (x : GroupValue). x.sizes) (c.requires.caller ∙ sym c.self.view_is) in
    let second_same : sizes_of two.seat.me.0 ≡ c.self.inside.sizes = ap (λ (x : CallerValue _). x.group.sizes) c.second.view_is ∙ ap (λ (x : GroupValue). x.sizes) (c.requires.second ∙ sym c.self.view_is) in
    let least = c.self.invariant.3 in
    let low = first_least (sizes_of one.seat.me.0) one.number one.seat.me.0 stage.Free c.caller.invariant.0 (subst (λ (s : Sizes). 1 ≤ s.first) (sym same) least) in
    let second_low = first_least (sizes_of two.seat.me.0) two.number two.seat.me.0 stage.Free c.second.invariant.0 (subst (λ (s : Sizes). 1 ≤ s.first) (sym second_same) least) in
    let given = c.in-Some.ensures.given in
    let next = c.caller.invariant.1 in
    let second_next = c.second.invariant.1 in
    let first_is = given.0 in
    let second_is = given.1 in
    let most = given.2 in
    let second_most = given.3 in
    record {
      place = subst (λ (x : GroupValue). IsPlace (setting_of x.sizes) c.args.place) (sym c.self.view_is) c.requires.place;
      callers = c.self.invariant.2;
      generation = (omega (arith, low, next, first_is), omega (arith, first_is, most));
      second_generation = (omega (arith, second_low, second_next, second_is), omega (arith, second_is, second_most));
    }

pub of-requires-clause-call : goal.of-requires-clause-call
of-requires-clause-call g c =
    let one = c.caller.inside.seated in
    let v = one.seat.me.0 in
    let same : sizes_of v ≡ c.self.inside.sizes = ap (λ (x : CallerValue _). x.group.sizes) c.caller.view_is ∙ ap (λ (x : GroupValue). x.sizes) (c.requires.caller ∙ sym c.self.view_is) in
    let low = first_least (sizes_of v) one.number v stage.Free c.caller.invariant.0 (subst (λ (s : Sizes). 1 ≤ s.first) (sym same) c.self.invariant.3) in
    let is = c.in-Some.ensures.given.0 in
    let next = c.caller.invariant.1 in
    (refl, is, omega (arith, low, is, next))

pub of-requires-clause-own : goal.of-requires-clause-own
of-requires-clause-own g c = c.second.invariant.0.caller.0

pub of-requires-clause-after : goal.of-requires-clause-after
of-requires-clause-after g c =
    let one = c.caller.inside.seated in
    let two = c.second.inside.seated in
    let v = one.seat.me.0 in
    let w = two.seat.me.0 in
    let v' = c.ask_together-attempt.result.1.me.0 in
    let w' = c.ask_together-attempt.result.2.me.0 in
    let i = c.in-Some.generation in
    let j = c.in-Some.second_generation in
    let k = c.args.place in
    let askers : Askers = record { sizes = c.self.inside.sizes; number = one.number; second = two.number; place = k; generation = i; second_generation = j } in
    let asked = subst (λ (r : AskAttempt). HasAsked askers c.args.tries v w v' w' r) c.in-Led.is c.ask_together-attempt.ensures.asked in
    follows_now c.self.inside.sizes c.ask_together-attempt.result.1.table_id one.number k (record { caller = one.number; generation = i }) (Some (record { caller = two.number; generation = j })) c.in-Led.after v' (sizes_are c.self.inside.sizes one.number v' (stage.Leading k i (Some (record { caller = two.number; generation = j }))) asked.0.first.sits) asked.1

pub returns-in-Led-clause-begun : goal.returns-in-Led-clause-begun
returns-in-Led-clause-begun g c =
    let one = c.caller.inside.seated in
    let two = c.second.inside.seated in
    let v = one.seat.me.0 in
    let w = two.seat.me.0 in
    let v' = c.ask_together-attempt.result.1.me.0 in
    let w' = c.ask_together-attempt.result.2.me.0 in
    let i = c.in-Some.generation in
    let j = c.in-Some.second_generation in
    let k = c.args.place in
    let askers : Askers = record { sizes = c.self.inside.sizes; number = one.number; second = two.number; place = k; generation = i; second_generation = j } in
    let same : sizes_of v ≡ c.self.inside.sizes = ap (λ (x : CallerValue _). x.group.sizes) c.caller.view_is ∙ ap (λ (x : GroupValue). x.sizes) (c.requires.caller ∙ sym c.self.view_is) in
    let second_same : sizes_of w ≡ c.self.inside.sizes = ap (λ (x : CallerValue _). x.group.sizes) c.second.view_is ∙ ap (λ (x : GroupValue). x.sizes) (c.requires.second ∙ sym c.self.view_is) in
    let table : c.ask_together-attempt.result.1.table_id ≡ one.seat.table_id = c.ask_together-attempt.ensures.first.0 ∙ sym (ap (λ (x : CallerValue _). x.group.table) c.caller.view_is ∙ ap (λ (x : GroupValue). x.table) (c.requires.caller ∙ sym c.self.view_is)) in
    let second_table : c.ask_together-attempt.result.2.table_id ≡ two.seat.table_id = c.ask_together-attempt.ensures.second.0 ∙ sym (ap (λ (x : CallerValue _). x.group.table) c.second.view_is ∙ ap (λ (x : GroupValue). x.table) (c.requires.second ∙ sym c.self.view_is)) in
    let given = c.in-Some.ensures.given in
    let first_is = given.0 in
    let second_is = given.1 in
    let most = given.2 in
    let second_most = given.3 in
    let left : i ≤ 4294967295 = omega (arith, first_is, most) in
    let second_left : j ≤ 4294967295 = omega (arith, second_is, second_most) in
    let next : next_in (sizes_of v) v one.number ≡ i = sym (given.0 ∙ c.caller.invariant.1) in
    let second_next : next_in (sizes_of w) w two.number ≡ j = sym (given.1 ∙ c.second.invariant.1) in
    let asked = subst (λ (r : AskAttempt). HasAsked askers c.args.tries v w v' w' r) c.in-Led.is c.ask_together-attempt.ensures.asked in
    let first = subst (λ (z : Sizes). Goes z one.number v v' (stage.Leading k i (Some (record { caller = two.number; generation = j }))) (event.Lead one.number k (record { caller = one.number; generation = i }) (Some (record { caller = two.number; generation = j })) ∷ []) 1) (sym same) asked.0.first in
    let second = subst (λ (z : Sizes). Goes z two.number w w' (stage.Holding k j (record { caller = one.number; generation = i })) [] 1) (sym second_same) asked.0.second in
    subst (λ (x : FlightValue _). HasChanBegun c.args.caller c.args.second k (begun.Led x c.of-in-Led.result)) (sym c.of.ensures)
    (subst (λ (y : TicketValue _). HasChanBegun c.args.caller c.args.second k (begun.Led (flight_of c.ask_together-attempt.result.1.table_id v' one.number k (record { caller = one.number; generation = i }) (Some (record { caller = two.number; generation = j }))) y)) (sym c.of-in-Led.ensures)
    (subst (λ (x : CallerValue _). HasChanBegun x c.args.second k (begun.Led (flight_of c.ask_together-attempt.result.1.table_id v' one.number k (record { caller = one.number; generation = i }) (Some (record { caller = two.number; generation = j }))) (ticket_of c.ask_together-attempt.result.2.table_id w' two.number k (record { caller = one.number; generation = i }) (record { caller = two.number; generation = j })))) c.caller.view_is
    (subst (λ (y : CallerValue _). HasChanBegun (caller_of one.seat.table_id v one.number) y k (begun.Led (flight_of c.ask_together-attempt.result.1.table_id v' one.number k (record { caller = one.number; generation = i }) (Some (record { caller = two.number; generation = j }))) (ticket_of c.ask_together-attempt.result.2.table_id w' two.number k (record { caller = one.number; generation = i }) (record { caller = two.number; generation = j })))) c.second.view_is
    (led_chan_row one.seat.table_id two.seat.table_id c.ask_together-attempt.result.1.table_id c.ask_together-attempt.result.2.table_id one.number two.number i j k v w v' w' table second_table (second_same ∙ sym same) c.caller.invariant.0 next left c.second.invariant.0 second_next second_left first second asked.0.turns))))

pub returns-in-Joined-clause-begun : goal.returns-in-Joined-clause-begun
returns-in-Joined-clause-begun g c =
    let one = c.caller.inside.seated in
    let two = c.second.inside.seated in
    let v = one.seat.me.0 in
    let w = two.seat.me.0 in
    let v' = c.ask_together-attempt.result.1.me.0 in
    let w' = c.ask_together-attempt.result.2.me.0 in
    let i = c.in-Some.generation in
    let j = c.in-Some.second_generation in
    let k = c.args.place in
    let askers : Askers = record { sizes = c.self.inside.sizes; number = one.number; second = two.number; place = k; generation = i; second_generation = j } in
    let same : sizes_of v ≡ c.self.inside.sizes = ap (λ (x : CallerValue _). x.group.sizes) c.caller.view_is ∙ ap (λ (x : GroupValue). x.sizes) (c.requires.caller ∙ sym c.self.view_is) in
    let second_same : sizes_of w ≡ c.self.inside.sizes = ap (λ (x : CallerValue _). x.group.sizes) c.second.view_is ∙ ap (λ (x : GroupValue). x.sizes) (c.requires.second ∙ sym c.self.view_is) in
    let table : c.ask_together-attempt.result.1.table_id ≡ one.seat.table_id = c.ask_together-attempt.ensures.first.0 ∙ sym (ap (λ (x : CallerValue _). x.group.table) c.caller.view_is ∙ ap (λ (x : GroupValue). x.table) (c.requires.caller ∙ sym c.self.view_is)) in
    let second_table : c.ask_together-attempt.result.2.table_id ≡ two.seat.table_id = c.ask_together-attempt.ensures.second.0 ∙ sym (ap (λ (x : CallerValue _). x.group.table) c.second.view_is ∙ ap (λ (x : GroupValue). x.table) (c.requires.second ∙ sym c.self.view_is)) in
    let given = c.in-Some.ensures.given in
    let first_is = given.0 in
    let second_is = given.1 in
    let most = given.2 in
    let second_most = given.3 in
    let left : i ≤ 4294967295 = omega (arith, first_is, most) in
    let second_left : j ≤ 4294967295 = omega (arith, second_is, second_most) in
    let next : next_in (sizes_of v) v one.number ≡ i = sym (given.0 ∙ c.caller.invariant.1) in
    let second_next : next_in (sizes_of w) w two.number ≡ j = sym (given.1 ∙ c.second.invariant.1) in
    let asked = subst (λ (r : AskAttempt). HasAsked askers c.args.tries v w v' w' r) c.in-Joined.is c.ask_together-attempt.ensures.asked in
    let first = subst (λ (z : Sizes). Goes z one.number v v' stage.Free [] 0) (sym same) asked.first in
    let second = subst (λ (z : Sizes). Goes z two.number w w' (stage.Holding k j c.in-Joined.open) (event.Enter two.number k c.in-Joined.open (record { caller = two.number; generation = j }) ∷ []) 1) (sym second_same) asked.second in
    subst (λ (y : TicketValue _). HasChanBegun c.args.caller c.args.second k (begun.Joined y (caller_of c.ask_together-attempt.result.1.table_id v' one.number))) (sym c.of-in-Joined.ensures)
    (subst (λ (x : CallerValue _). HasChanBegun x c.args.second k (begun.Joined (ticket_of c.ask_together-attempt.result.2.table_id w' two.number k c.in-Joined.open (record { caller = two.number; generation = j })) (caller_of c.ask_together-attempt.result.1.table_id v' one.number))) c.caller.view_is
    (subst (λ (y : CallerValue _). HasChanBegun (caller_of one.seat.table_id v one.number) y k (begun.Joined (ticket_of c.ask_together-attempt.result.2.table_id w' two.number k c.in-Joined.open (record { caller = two.number; generation = j })) (caller_of c.ask_together-attempt.result.1.table_id v' one.number))) c.second.view_is
    (joined_chan_row one.seat.table_id two.seat.table_id c.ask_together-attempt.result.1.table_id c.ask_together-attempt.result.2.table_id one.number two.number i j k c.in-Joined.open v w v' w' table second_table (second_same ∙ sym same) c.caller.invariant.0 next left c.second.invariant.0 second_next second_left first second asked.turns)))

pub returns-in-Lost-clause-refused : goal.returns-in-Lost-clause-refused
returns-in-Lost-clause-refused g c =
    let one = c.caller.inside.seated in
    let two = c.second.inside.seated in
    let v = one.seat.me.0 in
    let w = two.seat.me.0 in
    let v' = c.ask_together-attempt.result.1.me.0 in
    let w' = c.ask_together-attempt.result.2.me.0 in
    let i = c.in-Some.generation in
    let j = c.in-Some.second_generation in
    let k = c.args.place in
    let askers : Askers = record { sizes = c.self.inside.sizes; number = one.number; second = two.number; place = k; generation = i; second_generation = j } in
    let same : sizes_of v ≡ c.self.inside.sizes = ap (λ (x : CallerValue _). x.group.sizes) c.caller.view_is ∙ ap (λ (x : GroupValue). x.sizes) (c.requires.caller ∙ sym c.self.view_is) in
    let second_same : sizes_of w ≡ c.self.inside.sizes = ap (λ (x : CallerValue _). x.group.sizes) c.second.view_is ∙ ap (λ (x : GroupValue). x.sizes) (c.requires.second ∙ sym c.self.view_is) in
    let table : c.ask_together-attempt.result.1.table_id ≡ one.seat.table_id = c.ask_together-attempt.ensures.first.0 ∙ sym (ap (λ (x : CallerValue _). x.group.table) c.caller.view_is ∙ ap (λ (x : GroupValue). x.table) (c.requires.caller ∙ sym c.self.view_is)) in
    let second_table : c.ask_together-attempt.result.2.table_id ≡ two.seat.table_id = c.ask_together-attempt.ensures.second.0 ∙ sym (ap (λ (x : CallerValue _). x.group.table) c.second.view_is ∙ ap (λ (x : GroupValue). x.table) (c.requires.second ∙ sym c.self.view_is)) in
    let given = c.in-Some.ensures.given in
    let first_is = given.0 in
    let second_is = given.1 in
    let most = given.2 in
    let second_most = given.3 in
    let left : i ≤ 4294967295 = omega (arith, first_is, most) in
    let second_left : j ≤ 4294967295 = omega (arith, second_is, second_most) in
    let next : next_in (sizes_of v) v one.number ≡ i = sym (given.0 ∙ c.caller.invariant.1) in
    let second_next : next_in (sizes_of w) w two.number ≡ j = sym (given.1 ∙ c.second.invariant.1) in
    let asked = subst (λ (r : AskAttempt). HasAsked askers c.args.tries v w v' w' r) c.in-Lost.is c.ask_together-attempt.ensures.asked in
    let first = subst (λ (z : Sizes). Goes z one.number v v' stage.Free [] 0) (sym same) asked.0.first in
    let second = subst (λ (z : Sizes). Goes z two.number w w' stage.Free [] 0) (sym second_same) asked.0.second in
    let changed = subst (λ (z : Sizes). HaveChanged z one.number two.number k c.args.tries v.known.turns w.known.turns v'.known.turns) (sym same) asked.1 in
    let so = subst (λ (r : AskAttempt). HaveAskedSo askers c.args.tries v w v' w' r) c.in-Lost.is c.ask_together-attempt.ensures.exchanged in
    let all = subst (λ (z : Sizes). HasExchanged z one.number c.args.tries v v') (sym same) so.0 in
    let none = subst (λ (z : Sizes). HasExchanged z two.number 0 w w') (sym second_same) so.1 in
    subst (λ (x : CallerValue _). HasNotBegunChan x c.args.second k c.args.tries (not_begun.Busy c.args.tries (caller_of c.ask_together-attempt.result.1.table_id v' one.number, caller_of c.ask_together-attempt.result.2.table_id w' two.number))) c.caller.view_is
    (subst (λ (y : CallerValue _). HasNotBegunChan (caller_of one.seat.table_id v one.number) y k c.args.tries (not_begun.Busy c.args.tries (caller_of c.ask_together-attempt.result.1.table_id v' one.number, caller_of c.ask_together-attempt.result.2.table_id w' two.number))) c.second.view_is
    (busy_chan_row one.seat.table_id two.seat.table_id c.ask_together-attempt.result.1.table_id c.ask_together-attempt.result.2.table_id one.number two.number i j k c.args.tries v w v' w' table second_table (second_same ∙ sym same) c.caller.invariant.0 next left c.second.invariant.0 second_next second_left first second asked.0.turns changed all none))

pub returns-in-Led-clause-tried : goal.returns-in-Led-clause-tried
returns-in-Led-clause-tried g c =
    let one = c.caller.inside.seated in
    let two = c.second.inside.seated in
    let v = one.seat.me.0 in
    let w = two.seat.me.0 in
    let v' = c.ask_together-attempt.result.1.me.0 in
    let w' = c.ask_together-attempt.result.2.me.0 in
    let i = c.in-Some.generation in
    let j = c.in-Some.second_generation in
    let k = c.args.place in
    let askers : Askers = record { sizes = c.self.inside.sizes; number = one.number; second = two.number; place = k; generation = i; second_generation = j } in
    let same : sizes_of v ≡ c.self.inside.sizes = ap (λ (x : CallerValue _). x.group.sizes) c.caller.view_is ∙ ap (λ (x : GroupValue). x.sizes) (c.requires.caller ∙ sym c.self.view_is) in
    let second_same : sizes_of w ≡ c.self.inside.sizes = ap (λ (x : CallerValue _). x.group.sizes) c.second.view_is ∙ ap (λ (x : GroupValue). x.sizes) (c.requires.second ∙ sym c.self.view_is) in
    let asked = subst (λ (r : AskAttempt). HasAsked askers c.args.tries v w v' w' r) c.in-Led.is c.ask_together-attempt.ensures.asked in
    let so = subst (λ (r : AskAttempt). HaveAskedSo askers c.args.tries v w v' w' r) c.in-Led.is c.ask_together-attempt.ensures.exchanged in
    let first = subst (λ (z : Sizes). Goes z one.number v v' (stage.Leading k i (Some (record { caller = two.number; generation = j }))) (event.Lead one.number k (record { caller = one.number; generation = i }) (Some (record { caller = two.number; generation = j })) ∷ []) 1) (sym same) asked.0.first in
    let second = subst (λ (z : Sizes). Goes z two.number w w' (stage.Holding k j (record { caller = one.number; generation = i })) [] 1) (sym second_same) asked.0.second in
    let few = subst (λ (z : Sizes). exchanges_of z one.number v'.known.turns ≤ exchanges_of z one.number v.known.turns + c.args.tries) (sym same) so.0 in
    let none = subst (λ (z : Sizes). HasExchanged z two.number 0 w w') (sym second_same) so.1 in (
      subst (λ (x : FlightValue _). HasTriedAtMost c.args.caller c.args.tries x.turns) (sym c.of.ensures) (subst (λ (x : CallerValue _). HasTriedAtMost x c.args.tries v'.known.turns) c.caller.view_is (few_row one.seat.table_id one.number c.args.tries 1 v v' (stage.Leading k i (Some (record { caller = two.number; generation = j }))) (event.Lead one.number k (record { caller = one.number; generation = i }) (Some (record { caller = two.number; generation = j })) ∷ []) first few)),
      subst (λ (y : TicketValue _). HasTriedAtMost c.args.second 0 y.turns) (sym c.of-in-Led.ensures) (subst (λ (x : CallerValue _). HasTriedAtMost x 0 w'.known.turns) c.second.view_is (few_row two.seat.table_id two.number 0 1 w w' (stage.Holding k j (record { caller = one.number; generation = i })) [] second (omega (arith, none)))),
    )

pub returns-in-Joined-clause-tried : goal.returns-in-Joined-clause-tried
returns-in-Joined-clause-tried g c =
    let one = c.caller.inside.seated in
    let two = c.second.inside.seated in
    let v = one.seat.me.0 in
    let w = two.seat.me.0 in
    let v' = c.ask_together-attempt.result.1.me.0 in
    let w' = c.ask_together-attempt.result.2.me.0 in
    let i = c.in-Some.generation in
    let j = c.in-Some.second_generation in
    let k = c.args.place in
    let askers : Askers = record { sizes = c.self.inside.sizes; number = one.number; second = two.number; place = k; generation = i; second_generation = j } in
    let same : sizes_of v ≡ c.self.inside.sizes = ap (λ (x : CallerValue _). x.group.sizes) c.caller.view_is ∙ ap (λ (x : GroupValue). x.sizes) (c.requires.caller ∙ sym c.self.view_is) in
    let second_same : sizes_of w ≡ c.self.inside.sizes = ap (λ (x : CallerValue _). x.group.sizes) c.second.view_is ∙ ap (λ (x : GroupValue). x.sizes) (c.requires.second ∙ sym c.self.view_is) in
    let asked = subst (λ (r : AskAttempt). HasAsked askers c.args.tries v w v' w' r) c.in-Joined.is c.ask_together-attempt.ensures.asked in
    let so = subst (λ (r : AskAttempt). HaveAskedSo askers c.args.tries v w v' w' r) c.in-Joined.is c.ask_together-attempt.ensures.exchanged in
    let first = subst (λ (z : Sizes). Goes z one.number v v' stage.Free [] 0) (sym same) asked.first in
    let second = subst (λ (z : Sizes). Goes z two.number w w' (stage.Holding k j c.in-Joined.open) (event.Enter two.number k c.in-Joined.open (record { caller = two.number; generation = j }) ∷ []) 1) (sym second_same) asked.second in
    let few = subst (λ (z : Sizes). exchanges_of z one.number v'.known.turns ≤ exchanges_of z one.number v.known.turns + c.args.tries) (sym same) so.0 in
    let none = subst (λ (z : Sizes). HasExchanged z two.number 0 w w') (sym second_same) so.1 in (
      subst (λ (x : CallerValue _). HasTriedAtMost x c.args.tries v'.known.turns) c.caller.view_is (few_row one.seat.table_id one.number c.args.tries 0 v v' stage.Free [] first few),
      subst (λ (y : TicketValue _). HasTriedAtMost c.args.second 0 y.turns) (sym c.of-in-Joined.ensures) (subst (λ (x : CallerValue _). HasTriedAtMost x 0 w'.known.turns) c.second.view_is (few_row two.seat.table_id two.number 0 1 w w' (stage.Holding k j c.in-Joined.open) (event.Enter two.number k c.in-Joined.open (record { caller = two.number; generation = j }) ∷ []) second (omega (arith, none)))),
    )
