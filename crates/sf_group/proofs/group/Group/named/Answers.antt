use Rattle.std.proofs.Common.{◌≡◌, ◌∙◌, [], sym, ap, subst}
use Rattle.sf_steps_laws.specs.declared.operation.Stage.TheVariants as stage
use Rattle.sf_steps_laws.specs.Naming.{IsNamed}
use Rattle.sf_group_rows.specs.declared.sizes.Sizes.{Sizes}
use Rattle.sf_group_rows.specs.Tokens.{GroupValue, CallerValue}
use Rattle.sf_group_rows.specs.Forgets.{HasNamed}
use Rattle.sf_group_steps.specs.View.{sizes_of, history_of}
use Rattle.sf_group_steps.specs.Stands.{Goes}
use Rattle.sf_group.specs.Known.{caller_of}
use Rattle.sf_group.proofs.QuestionRows.{named_row}
use Rattle.sf_group.proofs.group.Group.named.Goals as goal

pub returns : goal.returns
returns g c =
    let seat = c.caller.inside.seated.seat in
    let v = seat.me.0 in
    let w = c.ask_named.new.seat.me.0 in
    let a = c.caller.inside.seated.number in
    let same : sizes_of v ≡ c.self.inside.sizes = ap (λ (x : CallerValue _). x.group.sizes) c.caller.view_is ∙ (ap (λ (x : GroupValue). x.sizes) c.requires.own ∙ ap (λ (x : GroupValue). x.sizes) (sym c.self.view_is)) in
    let goes = subst (λ (z : Sizes). Goes z a v w stage.Free [] 0) (sym same) c.ask_named.ensures.free in
    let is = subst (λ (z : Sizes). IsNamed (history_of z w.known.turns) c.args.place c.ask_named.result) (sym same) c.ask_named.ensures.named in
    subst (λ (x : CallerValue _). HasNamed x c.args.place c.ask_named.result (caller_of c.ask_named.new.seat.table_id w a)) c.caller.view_is
    (named_row seat.table_id c.ask_named.new.seat.table_id a c.args.place c.ask_named.result v w c.ask_named.ensures.own.0 goes is)
