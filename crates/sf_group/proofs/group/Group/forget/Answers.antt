use Rattle.std.proofs.Common.{◌≡◌, ◌≤◌, ◌+◌, ◌∙◌, [], ◌∷◌, None, Some, sym, ap, subst}
use Rattle.sf_history.specs.declared.event.Forgotten.TheVariants as forgotten
use Rattle.sf_history.specs.declared.event.Event.TheVariants as event
use Rattle.sf_steps_laws.specs.declared.operation.Stage.TheVariants as stage
use Rattle.sf_group_rows.specs.declared.sizes.Sizes.{Sizes}
use Rattle.sf_group_steps.specs.View.{sizes_of}
use Rattle.sf_group_rows.specs.Tokens.{GroupValue, CallerValue}
use Rattle.sf_group_steps.specs.Stands.{Goes}
use Rattle.sf_group_steps.specs.Changes.{Tries}
use Rattle.sf_group.specs.Known.{caller_of}
use Rattle.sf_group_rows.specs.Forgets.{HasForgotten}
use Rattle.sf_group_steps.specs.Exchanges.{exchanges_of, HasExchanged}
use Rattle.sf_group.specs.Calls.{HasTriedAtMost, HasNotForgotten}
use Rattle.sf_group.proofs.Rows.{forget_row, few_row, miss_row}
use Rattle.sf_group.proofs.group.Group.forget.Goals as goal

pub returns-in-Closed-clause-forgotten : goal.returns-in-Closed-clause-forgotten
returns-in-Closed-clause-forgotten g c =
    let seat = c.caller.inside.seated.seat in
    let v = seat.me.0 in
    let w = c.forget_often-attempt.new.seat.me.0 in
    let a = c.caller.inside.seated.number in
    let called = c.in-Closed.call in
    let same : sizes_of v ≡ c.self.inside.sizes = ap (λ (x : CallerValue _). x.group.sizes) c.caller.view_is ∙ (ap (λ (x : GroupValue). x.sizes) c.requires.own ∙ ap (λ (x : GroupValue). x.sizes) (sym c.self.view_is)) in
    let goes = subst (λ (z : Sizes). Goes z a v w stage.Free (event.Forget a c.args.place (Some called) ∷ []) 0) (sym same) c.in-Closed.ensures.forgot.1 in
    subst (λ (x : CallerValue _). HasForgotten x c.args.place (caller_of c.forget_often-attempt.new.seat.table_id w a) (forgotten.Closed called)) c.caller.view_is
    (forget_row seat.table_id c.forget_often-attempt.new.seat.table_id a c.args.place (Some called) v w c.forget_often-attempt.ensures.own.0 goes)

pub returns-in-Cleared-clause-forgotten : goal.returns-in-Cleared-clause-forgotten
returns-in-Cleared-clause-forgotten g c =
    let seat = c.caller.inside.seated.seat in
    let v = seat.me.0 in
    let w = c.forget_often-attempt.new.seat.me.0 in
    let a = c.caller.inside.seated.number in
    let same : sizes_of v ≡ c.self.inside.sizes = ap (λ (x : CallerValue _). x.group.sizes) c.caller.view_is ∙ (ap (λ (x : GroupValue). x.sizes) c.requires.own ∙ ap (λ (x : GroupValue). x.sizes) (sym c.self.view_is)) in
    let goes = subst (λ (z : Sizes). Goes z a v w stage.Free (event.Forget a c.args.place None ∷ []) 0) (sym same) c.in-Cleared.ensures.forgot.1 in
    subst (λ (x : CallerValue _). HasForgotten x c.args.place (caller_of c.forget_often-attempt.new.seat.table_id w a) forgotten.Idle) c.caller.view_is
    (forget_row seat.table_id c.forget_often-attempt.new.seat.table_id a c.args.place None v w c.forget_often-attempt.ensures.own.0 goes)

pub returns-in-Missed-clause-forgotten : goal.returns-in-Missed-clause-forgotten
returns-in-Missed-clause-forgotten g c =
    let seat = c.caller.inside.seated.seat in
    let v = seat.me.0 in
    let w = c.forget_often-attempt.new.seat.me.0 in
    let a = c.caller.inside.seated.number in
    let same : sizes_of v ≡ c.self.inside.sizes = ap (λ (x : CallerValue _). x.group.sizes) c.caller.view_is ∙ (ap (λ (x : GroupValue). x.sizes) c.requires.own ∙ ap (λ (x : GroupValue). x.sizes) (sym c.self.view_is)) in
    let goes = subst (λ (z : Sizes). Goes z a v w stage.Free (event.Forget a c.args.place None ∷ []) 0) (sym same) c.in-Missed.ensures.forgot in
    subst (λ (x : CallerValue _). HasForgotten x c.args.place (caller_of c.forget_often-attempt.new.seat.table_id w a) forgotten.Idle) c.caller.view_is
    (forget_row seat.table_id c.forget_often-attempt.new.seat.table_id a c.args.place None v w c.forget_often-attempt.ensures.own.0 goes)

pub returns-clause-refused : goal.returns-clause-refused
returns-clause-refused g c =
    let seat = c.caller.inside.seated.seat in
    let v = seat.me.0 in
    let w = c.forget_often-attempt.new.seat.me.0 in
    let a = c.caller.inside.seated.number in
    let same : sizes_of v ≡ c.self.inside.sizes = ap (λ (x : CallerValue _). x.group.sizes) c.caller.view_is ∙ (ap (λ (x : GroupValue). x.sizes) c.requires.own ∙ ap (λ (x : GroupValue). x.sizes) (sym c.self.view_is)) in
    let done = subst (λ (z : Sizes). Tries z a c.args.place c.args.tries v w stage.Free) (sym same) c.in-Lost.ensures.forgot in
    let all = subst (λ (z : Sizes). HasExchanged z a c.args.tries v w) (sym same) c.in-Lost.ensures.exchanged in
    subst (λ (x : CallerValue _). HasNotForgotten x c.args.place c.args.tries (caller_of c.forget_often-attempt.new.seat.table_id w a) c.args.tries) c.caller.view_is
    (miss_row seat.table_id c.forget_often-attempt.new.seat.table_id a c.args.place c.args.tries v w c.forget_often-attempt.ensures.own.0 done all)

pub returns-in-Closed-clause-tried : goal.returns-in-Closed-clause-tried
returns-in-Closed-clause-tried g c =
    let seat = c.caller.inside.seated.seat in
    let v = seat.me.0 in
    let w = c.forget_often-attempt.new.seat.me.0 in
    let a = c.caller.inside.seated.number in
    let same : sizes_of v ≡ c.self.inside.sizes = ap (λ (x : CallerValue _). x.group.sizes) c.caller.view_is ∙ (ap (λ (x : GroupValue). x.sizes) c.requires.own ∙ ap (λ (x : GroupValue). x.sizes) (sym c.self.view_is)) in
    let goes = subst (λ (z : Sizes). Goes z a v w stage.Free (event.Forget a c.args.place (Some c.in-Closed.call) ∷ []) 0) (sym same) c.in-Closed.ensures.forgot.1 in
    let few = subst (λ (z : Sizes). exchanges_of z a w.known.turns ≤ exchanges_of z a v.known.turns + c.args.tries) (sym same) c.in-Closed.ensures.exchanged in
    subst (λ (x : CallerValue _). HasTriedAtMost x c.args.tries w.known.turns) c.caller.view_is (few_row seat.table_id a c.args.tries 0 v w stage.Free (event.Forget a c.args.place (Some c.in-Closed.call) ∷ []) goes few)

pub returns-in-Cleared-clause-tried : goal.returns-in-Cleared-clause-tried
returns-in-Cleared-clause-tried g c =
    let seat = c.caller.inside.seated.seat in
    let v = seat.me.0 in
    let w = c.forget_often-attempt.new.seat.me.0 in
    let a = c.caller.inside.seated.number in
    let same : sizes_of v ≡ c.self.inside.sizes = ap (λ (x : CallerValue _). x.group.sizes) c.caller.view_is ∙ (ap (λ (x : GroupValue). x.sizes) c.requires.own ∙ ap (λ (x : GroupValue). x.sizes) (sym c.self.view_is)) in
    let goes = subst (λ (z : Sizes). Goes z a v w stage.Free (event.Forget a c.args.place None ∷ []) 0) (sym same) c.in-Cleared.ensures.forgot.1 in
    let few = subst (λ (z : Sizes). exchanges_of z a w.known.turns ≤ exchanges_of z a v.known.turns + c.args.tries) (sym same) c.in-Cleared.ensures.exchanged in
    subst (λ (x : CallerValue _). HasTriedAtMost x c.args.tries w.known.turns) c.caller.view_is (few_row seat.table_id a c.args.tries 0 v w stage.Free (event.Forget a c.args.place None ∷ []) goes few)

pub returns-in-Missed-clause-tried : goal.returns-in-Missed-clause-tried
returns-in-Missed-clause-tried g c =
    let seat = c.caller.inside.seated.seat in
    let v = seat.me.0 in
    let w = c.forget_often-attempt.new.seat.me.0 in
    let a = c.caller.inside.seated.number in
    let same : sizes_of v ≡ c.self.inside.sizes = ap (λ (x : CallerValue _). x.group.sizes) c.caller.view_is ∙ (ap (λ (x : GroupValue). x.sizes) c.requires.own ∙ ap (λ (x : GroupValue). x.sizes) (sym c.self.view_is)) in
    let goes = subst (λ (z : Sizes). Goes z a v w stage.Free (event.Forget a c.args.place None ∷ []) 0) (sym same) c.in-Missed.ensures.forgot in
    let few = subst (λ (z : Sizes). exchanges_of z a w.known.turns ≤ exchanges_of z a v.known.turns + c.args.tries) (sym same) c.in-Missed.ensures.exchanged in
    subst (λ (x : CallerValue _). HasTriedAtMost x c.args.tries w.known.turns) c.caller.view_is (few_row seat.table_id a c.args.tries 0 v w stage.Free (event.Forget a c.args.place None ∷ []) goes few)
