use Rattle.std.proofs.Common.{◌≡◌, ◌∙◌, [], sym, ap, subst}
use Rattle.sf_steps_laws.specs.declared.operation.Stage.TheVariants as stage
use Rattle.sf_group_rows.specs.Tokens.{GroupValue, CallerValue}
use Rattle.sf_group_rows.specs.Same.{HasNothing}
use Rattle.sf_group_rows.specs.Currents.{IsStillSaid}
use Rattle.sf_group_steps.specs.View.{sizes_of, history_of}
use Rattle.sf_group.specs.Known.{caller_of}
use Rattle.sf_group.proofs.Rows.{free_again, nothing_row}
use Rattle.sf_group.proofs.StillRows.{still_said, free_stays}
use Rattle.sf_group.proofs.group.Group.is_still_current.Goals as goal

pub invariant_of-caller : goal.invariant_of-caller
invariant_of-caller g c =
    let v = c.caller.inside.seated.seat.me.0 in
    let w = c.is_still_current.new.seat.me.0 in
    let a = c.caller.inside.seated.number in
    let same : sizes_of v ≡ c.self.inside.sizes = ap (λ (x : CallerValue _). x.group.sizes) c.caller.view_is ∙ ap (λ (x : GroupValue). x.sizes) (c.requires.own ∙ sym c.self.view_is) in
    let goes = free_stays c.self.inside.sizes a v w same c.is_still_current.ensures.stays c.caller.invariant.0 in
    let free = free_again a c.caller.inside.seated.next v w [] c.caller.invariant.1 goes in
    (free.0, free.1, c.is_still_current.ensures.own.1 ∙ c.caller.invariant.2, c.caller.invariant.3)

pub returns-clause-nothing : goal.returns-clause-nothing
returns-clause-nothing g c =
    let seat = c.caller.inside.seated.seat in
    let v = seat.me.0 in
    let w = c.is_still_current.new.seat.me.0 in
    let t = c.is_still_current.new.seat.table_id in
    let a = c.caller.inside.seated.number in
    let same : sizes_of v ≡ c.self.inside.sizes = ap (λ (x : CallerValue _). x.group.sizes) c.caller.view_is ∙ ap (λ (x : GroupValue). x.sizes) (c.requires.own ∙ sym c.self.view_is) in
    let goes = free_stays c.self.inside.sizes a v w same c.is_still_current.ensures.stays c.caller.invariant.0 in
    subst (λ (x : CallerValue _). HasNothing x (caller_of t w a)) c.caller.view_is (nothing_row seat.table_id t a v w c.is_still_current.ensures.own.0 goes)

pub returns-clause-said : goal.returns-clause-said
returns-clause-said g c =
    let v = c.caller.inside.seated.seat.me.0 in
    let w = c.is_still_current.new.seat.me.0 in
    let a = c.caller.inside.seated.number in
    let same : sizes_of v ≡ c.self.inside.sizes = ap (λ (x : CallerValue _). x.group.sizes) c.caller.view_is ∙ ap (λ (x : GroupValue). x.sizes) (c.requires.own ∙ sym c.self.view_is) in
    let goes = free_stays c.self.inside.sizes a v w same c.is_still_current.ensures.stays c.caller.invariant.0 in
    subst (λ (x : CallerValue _). IsStillSaid c.args.place c.args.call c.is_still_current.result x.seen (history_of (sizes_of w) w.known.turns)) c.caller.view_is
    (still_said c.self.inside.sizes a c.args.place c.args.call stage.Free c.is_still_current.result v w same goes.sits c.is_still_current.ensures.right c.is_still_current.ensures.outdated)
