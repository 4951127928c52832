use Rattle.std.proofs.Common.{◌≡◌, ◌≤◌, ◌<◌, ◌∙◌, [], ◌∷◌, None, refl, sym, ap, subst, arith, ◌+◌}
use Rattle.sf_history.specs.declared.event.Event.TheVariants as event
use Rattle.sf_steps_laws.specs.declared.operation.Stage.TheVariants as stage
use Rattle.sf_group_rows.specs.declared.sizes.Sizes.{Sizes}
use Rattle.sf_group_rows.specs.declared.outcomes.Begun.TheVariants as begun
use Rattle.sf_group_rows.specs.declared.outcomes.NotBegun.TheVariants as not_begun
use Rattle.sf_group_steps.specs.View.{sizes_of}
use Rattle.sf_group_rows.specs.Tokens.{GroupValue, CallerValue, FlightValue, TicketValue}
use Rattle.sf_group_steps.specs.Stands.{next_in, Goes}
use Rattle.sf_group_steps.specs.Changes.{Tries}
use Rattle.sf_group.specs.Known.{caller_of, flight_of, ticket_of}
use Rattle.sf_group_rows.specs.Begins.{HasBegun, IsRefusedSpent}
use Rattle.sf_group_steps.specs.Exchanges.{exchanges_of, HasExchanged}
use Rattle.sf_group.specs.Calls.{HasTriedAtMost, HasNotBegun}
use Rattle.sf_group.proofs.Rows.{sizes_are, follows_now, first_least, lead_row, join_row, few_row, busy_row, spent_row}
use Rattle.sf_group.proofs.group.Group.begin.Goals as goal

pub returns-in_default-clause-refused : goal.returns-in_default-clause-refused
returns-in_default-clause-refused g c =
    let seat = c.caller.inside.seated.seat in
    let above : 4294967295 < next_in (sizes_of seat.me.0) seat.me.0 c.caller.inside.seated.number = let no = c.in_default.ensures in let is = c.caller.invariant.1 in omega (arith, no) in
    subst (λ (x : CallerValue _). IsRefusedSpent x (caller_of seat.table_id seat.me.0 c.caller.inside.seated.number)) c.caller.view_is (spent_row seat.table_id c.caller.inside.seated.number seat.me.0 c.caller.invariant.0 above)

pub ask_often-attempt-requires-clause-generation : goal.ask_often-attempt-requires-clause-generation
ask_often-attempt-requires-clause-generation g c =
    let seat = c.caller.inside.seated.seat in
    let z : Sizes = sizes_of seat.me.0 in
    let same : z ≡ c.self.inside.sizes = ap (λ (x : CallerValue _). x.group.sizes) c.caller.view_is ∙ (ap (λ (x : GroupValue). x.sizes) c.requires.own ∙ ap (λ (x : GroupValue). x.sizes) (sym c.self.view_is)) in
    let given : c.in-Ok.generation ≡ next_in z seat.me.0 c.caller.inside.seated.number = c.in-Ok.ensures.1 ∙ c.caller.invariant.1 in
    let least : 1 ≤ z.first = subst (λ (s : Sizes). 1 ≤ s.first) (sym same) c.self.invariant.3 in
    let low = first_least z c.caller.inside.seated.number seat.me.0 stage.Free c.caller.invariant.0 least in (
      omega (arith, low, given),
      subst (λ (s : Sizes). next_in s seat.me.0 c.caller.inside.seated.number ≡ c.in-Ok.generation) same (sym given),
    )

pub returns-in-Led-clause-begun : goal.returns-in-Led-clause-begun
returns-in-Led-clause-begun g c =
    let seat = c.caller.inside.seated.seat in
    let v = seat.me.0 in
    let w = c.ask_often-attempt.new.seat.me.0 in
    let a = c.caller.inside.seated.number in
    let i = c.in-Ok.generation in
    let same : sizes_of v ≡ c.self.inside.sizes = ap (λ (x : CallerValue _). x.group.sizes) c.caller.view_is ∙ (ap (λ (x : GroupValue). x.sizes) c.requires.own ∙ ap (λ (x : GroupValue). x.sizes) (sym c.self.view_is)) in
    let goes = subst (λ (z : Sizes). Goes z a v w (stage.Leading c.args.place i None) (event.Lead a c.args.place (record { caller = a; generation = i }) None ∷ []) 1) (sym same) c.in-Led.ensures.tried.0 in
    let left : i ≤ 4294967295 = let low = c.in-Ok.ensures.0 in let is = c.in-Ok.ensures.1 in omega (arith, low, is) in
    subst (λ (x : FlightValue _). HasBegun c.args.caller c.args.place (begun.Lead x)) (sym c.of.ensures)
    (subst (λ (x : CallerValue _). HasBegun x c.args.place (begun.Lead (flight_of c.ask_often-attempt.new.seat.table_id w a c.args.place (record { caller = a; generation = i }) None))) c.caller.view_is
    (lead_row seat.table_id c.ask_often-attempt.new.seat.table_id a i c.args.place v w c.ask_often-attempt.ensures.own.0 c.caller.invariant.0 (sym (c.in-Ok.ensures.1 ∙ c.caller.invariant.1)) left goes))

pub returns-in-Joined-clause-begun : goal.returns-in-Joined-clause-begun
returns-in-Joined-clause-begun g c =
    let seat = c.caller.inside.seated.seat in
    let v = seat.me.0 in
    let w = c.ask_often-attempt.new.seat.me.0 in
    let a = c.caller.inside.seated.number in
    let i = c.in-Ok.generation in
    let called = c.in-Joined.call in
    let same : sizes_of v ≡ c.self.inside.sizes = ap (λ (x : CallerValue _). x.group.sizes) c.caller.view_is ∙ (ap (λ (x : GroupValue). x.sizes) c.requires.own ∙ ap (λ (x : GroupValue). x.sizes) (sym c.self.view_is)) in
    let goes = subst (λ (z : Sizes). Goes z a v w (stage.Holding c.args.place i called) (event.Enter a c.args.place called (record { caller = a; generation = i }) ∷ []) 1) (sym same) c.in-Joined.ensures.tried in
    let left : i ≤ 4294967295 = let low = c.in-Ok.ensures.0 in let is = c.in-Ok.ensures.1 in omega (arith, low, is) in
    subst (λ (x : TicketValue _). HasBegun c.args.caller c.args.place (begun.Join x)) (sym c.of-in-Joined.ensures)
    (subst (λ (x : CallerValue _). HasBegun x c.args.place (begun.Join (ticket_of c.ask_often-attempt.new.seat.table_id w a c.args.place called (record { caller = a; generation = i })))) c.caller.view_is
    (join_row seat.table_id c.ask_often-attempt.new.seat.table_id a i c.args.place called v w c.ask_often-attempt.ensures.own.0 c.caller.invariant.0 (sym (c.in-Ok.ensures.1 ∙ c.caller.invariant.1)) left goes))

pub returns-in-Lost-clause-refused : goal.returns-in-Lost-clause-refused
returns-in-Lost-clause-refused g c =
    let seat = c.caller.inside.seated.seat in
    let v = seat.me.0 in
    let w = c.ask_often-attempt.new.seat.me.0 in
    let a = c.caller.inside.seated.number in
    let same : sizes_of v ≡ c.self.inside.sizes = ap (λ (x : CallerValue _). x.group.sizes) c.caller.view_is ∙ (ap (λ (x : GroupValue). x.sizes) c.requires.own ∙ ap (λ (x : GroupValue). x.sizes) (sym c.self.view_is)) in
    let i = c.in-Ok.generation in
    let left : i ≤ 4294967295 = let low = c.in-Ok.ensures.0 in let is = c.in-Ok.ensures.1 in omega (arith, low, is) in
    let done = subst (λ (z : Sizes). Tries z a c.args.place c.args.tries v w stage.Free) (sym same) c.in-Lost.ensures.tried in
    let all = subst (λ (z : Sizes). HasExchanged z a c.args.tries v w) (sym same) c.in-Lost.ensures.exchanged in
    subst (λ (x : CallerValue _). HasNotBegun x c.args.place c.args.tries (not_begun.Busy c.args.tries (caller_of c.ask_often-attempt.new.seat.table_id w a))) c.caller.view_is
    (busy_row seat.table_id c.ask_often-attempt.new.seat.table_id a i c.args.place c.args.tries v w c.ask_often-attempt.ensures.own.0 c.caller.invariant.0 (sym (c.in-Ok.ensures.1 ∙ c.caller.invariant.1)) left done all)

pub of-requires-clause-call : goal.of-requires-clause-call
of-requires-clause-call g c =
    let v = c.caller.inside.seated.seat.me.0 in
    let a = c.caller.inside.seated.number in
    let same : sizes_of v ≡ c.self.inside.sizes = ap (λ (x : CallerValue _). x.group.sizes) c.caller.view_is ∙ (ap (λ (x : GroupValue). x.sizes) c.requires.own ∙ ap (λ (x : GroupValue). x.sizes) (sym c.self.view_is)) in
    let least : 1 ≤ (sizes_of v).first = subst (λ (z : Sizes). 1 ≤ z.first) (sym same) c.self.invariant.3 in
    let first = first_least (sizes_of v) a v stage.Free c.caller.invariant.0 least in
    let given : c.in-Ok.generation ≡ next_in (sizes_of v) v a = c.in-Ok.ensures.1 ∙ c.caller.invariant.1 in
    (refl, c.in-Ok.ensures.1, omega (arith, first, given))

pub of-requires-clause-after : goal.of-requires-clause-after
of-requires-clause-after g c =
    let w = c.ask_often-attempt.new.seat.me.0 in
    let a = c.caller.inside.seated.number in
    let i = c.in-Ok.generation in
    follows_now c.self.inside.sizes c.ask_often-attempt.new.seat.table_id a c.args.place (record { caller = a; generation = i }) None c.in-Led.after w (sizes_are c.self.inside.sizes a w (stage.Leading c.args.place i None) c.in-Led.ensures.tried.0.sits) c.in-Led.ensures.tried.1

pub returns-in-Led-clause-tried : goal.returns-in-Led-clause-tried
returns-in-Led-clause-tried g c =
    let seat = c.caller.inside.seated.seat in
    let v = seat.me.0 in
    let w = c.ask_often-attempt.new.seat.me.0 in
    let a = c.caller.inside.seated.number in
    let i = c.in-Ok.generation in
    let same : sizes_of v ≡ c.self.inside.sizes = ap (λ (x : CallerValue _). x.group.sizes) c.caller.view_is ∙ (ap (λ (x : GroupValue). x.sizes) c.requires.own ∙ ap (λ (x : GroupValue). x.sizes) (sym c.self.view_is)) in
    let goes = subst (λ (z : Sizes). Goes z a v w (stage.Leading c.args.place i None) (event.Lead a c.args.place (record { caller = a; generation = i }) None ∷ []) 1) (sym same) c.in-Led.ensures.tried.0 in
    let few = subst (λ (z : Sizes). exchanges_of z a w.known.turns ≤ exchanges_of z a v.known.turns + c.args.tries) (sym same) c.in-Led.ensures.exchanged in
    subst (λ (x : FlightValue _). HasTriedAtMost c.args.caller c.args.tries x.turns) (sym c.of.ensures)
    (subst (λ (x : CallerValue _). HasTriedAtMost x c.args.tries w.known.turns) c.caller.view_is (few_row seat.table_id a c.args.tries 1 v w (stage.Leading c.args.place i None) (event.Lead a c.args.place (record { caller = a; generation = i }) None ∷ []) goes few))

pub returns-in-Joined-clause-tried : goal.returns-in-Joined-clause-tried
returns-in-Joined-clause-tried g c =
    let seat = c.caller.inside.seated.seat in
    let v = seat.me.0 in
    let w = c.ask_often-attempt.new.seat.me.0 in
    let a = c.caller.inside.seated.number in
    let i = c.in-Ok.generation in
    let same : sizes_of v ≡ c.self.inside.sizes = ap (λ (x : CallerValue _). x.group.sizes) c.caller.view_is ∙ (ap (λ (x : GroupValue). x.sizes) c.requires.own ∙ ap (λ (x : GroupValue). x.sizes) (sym c.self.view_is)) in
    let goes = subst (λ (z : Sizes). Goes z a v w (stage.Holding c.args.place i c.in-Joined.call) (event.Enter a c.args.place c.in-Joined.call (record { caller = a; generation = i }) ∷ []) 1) (sym same) c.in-Joined.ensures.tried in
    let few = subst (λ (z : Sizes). exchanges_of z a w.known.turns ≤ exchanges_of z a v.known.turns + c.args.tries) (sym same) c.in-Joined.ensures.exchanged in
    subst (λ (x : TicketValue _). HasTriedAtMost c.args.caller c.args.tries x.turns) (sym c.of-in-Joined.ensures)
    (subst (λ (x : CallerValue _). HasTriedAtMost x c.args.tries w.known.turns) c.caller.view_is (few_row seat.table_id a c.args.tries 1 v w (stage.Holding c.args.place i c.in-Joined.call) (event.Enter a c.args.place c.in-Joined.call (record { caller = a; generation = i }) ∷ []) goes few))
