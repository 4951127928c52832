use Rattle.std.proofs.Common.{◌≡◌, ◌≢◌, ◌∙◌, [], Some, ap, sym, subst}
use Rattle.std.specs.Prelude.{nat_eq, IsTrue, IsFalse}
use Rattle.sf_history.specs.History.{current_call}
use Rattle.sf_steps_laws.specs.declared.operation.Stage.TheVariants.{Free}
use Rattle.sf_group_rows.specs.declared.sizes.Sizes.{Sizes}
use Rattle.sf_group_rows.specs.Tokens.{GroupValue, CallerValue, LetterValue}
use Rattle.sf_group_rows.specs.Notes.{HasLearnt}
use Rattle.sf_group_rows.specs.Currents.{HasQuestioned}
use Rattle.sf_group_steps.specs.View.{sizes_of, history_of}
use Rattle.sf_group_steps.specs.Stands.{Goes}
use Rattle.sf_group_steps.specs.Questions.{WasCurrent}
use Rattle.sf_group.specs.Known.{caller_of}
use Rattle.sf_group.proofs.QuestionRows.{lent_row, questioned_row}
use Rattle.sf_group.proofs.group.Group.is_current.Goals as goal

pub returns : goal.returns
returns g c =
    let l = c.letter.inside in
    let seat = c.caller.inside.seated.seat in
    let v = seat.me.0 in
    let w = c.ask_current.new.seat.me.0 in
    let a = c.caller.inside.seated.number in
    let t = c.ask_current.new.seat.table_id in
    let same : c.self.inside.sizes ≡ sizes_of v =
    ap (λ (x : GroupValue). x.sizes) (c.self.view_is ∙ sym c.requires.own) ∙ sym (ap (λ (x : CallerValue _). x.group.sizes) c.caller.view_is ∙ ap (λ (x : GroupValue). x.sizes) c.learn.ensures.learnt.0.group) in
    let goes = subst (λ (z : Sizes). Goes z a v w Free [] 0) same c.ask_current.ensures.free in
    let right = subst (λ (z : Sizes). IsTrue c.ask_current.result → WasCurrent z l.place l.call v w) same c.ask_current.ensures.right in
    let outdated = subst (λ (z : Sizes). IsFalse c.ask_current.result → current_call nat_eq (history_of z w.known.turns) l.place ≢ Some l.call) same c.ask_current.ensures.outdated in
    let shown : LetterValue _ = record { group = l.note.group; seen = l.note.seen; place = l.place; call = l.call; value = l.value; joiners = l.joiners } in
    let after : LetterValue _ = record { group = c.learn.new.note.group; seen = c.learn.new.note.seen; place = l.place; call = l.call; value = l.value; joiners = l.joiners } in
    let learnt = subst (λ (d : CallerValue _). HasLearnt c.args.caller.now l.note.seen d) (sym c.caller.view_is) c.learn.ensures.learnt in
    subst (λ (x : LetterValue _). HasQuestioned c.args.caller.now x c.ask_current.result (caller_of t w a) after) c.letter.view_is
    (questioned_row c.args.caller.now shown after seat.table_id t a v w c.ask_current.result learnt (lent_row shown c.learn.new.note c.learn.ensures.note) c.ask_current.ensures.own.0 goes right outdated)
