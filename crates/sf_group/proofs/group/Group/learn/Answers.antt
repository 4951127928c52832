use Rattle.std.proofs.Common.{◌≡◌, [], ap, sym, ◌∙◌, subst}
use Rattle.sf_steps_laws.specs.declared.operation.Stage.TheVariants as stage
use Rattle.sf_group_rows.specs.declared.sizes.Sizes.{Sizes}
use Rattle.sf_group_rows.specs.Tokens.{GroupValue, CallerValue, NoteValue}
use Rattle.sf_group_rows.specs.Notes.{HasLearnt}
use Rattle.sf_group_steps.specs.View.{sizes_of, history_of}
use Rattle.sf_group_steps.specs.Hears.{HasHeard}
use Rattle.sf_group_steps.proofs.LookSteps.{free_alone}
use Rattle.sf_group.specs.Known.{caller_of}
use Rattle.sf_group.proofs.Rows.{free_again}
use Rattle.sf_group_steps.proofs.HearSteps.{heard_goes}
use Rattle.sf_group.proofs.NoteRows.{learnt_row}
use Rattle.sf_group.proofs.group.Group.learn.Goals as goal

pub invariant_of-caller : goal.invariant_of-caller
invariant_of-caller g c =
    let v = c.caller.inside.seated.seat.me.0 in
    let w = c.hear_note.new.seat.me.0 in
    let a = c.caller.inside.seated.number in
    let same : sizes_of v ≡ c.self.inside.sizes = ap (λ (x : CallerValue _). x.group.sizes) c.caller.view_is ∙ ap (λ (x : GroupValue). x.sizes) (c.requires.own ∙ sym c.self.view_is) in
    let heard = subst (λ (z : Sizes). HasHeard z v c.note.inside.seat.me.0.known.turns w) (sym same) c.hear_note.ensures.heard in
    let free = free_again a c.caller.inside.seated.next v w [] c.caller.invariant.1 (heard_goes (sizes_of v) a v w stage.Free c.caller.invariant.0 free_alone heard.made) in
    (free.0, free.1, c.hear_note.ensures.own.1 ∙ c.caller.invariant.2, c.caller.invariant.3)

pub returns-clause-learnt : goal.returns-clause-learnt
returns-clause-learnt g c =
    let seat = c.caller.inside.seated.seat in
    let n = c.note.inside.seat.me.0 in
    let w = c.hear_note.new.seat.me.0 in
    let a = c.caller.inside.seated.number in
    let same : sizes_of seat.me.0 ≡ c.self.inside.sizes = ap (λ (x : CallerValue _). x.group.sizes) c.caller.view_is ∙ ap (λ (x : GroupValue). x.sizes) (c.requires.own ∙ sym c.self.view_is) in
    let noted : sizes_of n ≡ c.self.inside.sizes = ap (λ (x : NoteValue _). x.group.sizes) c.note.view_is ∙ ap (λ (x : GroupValue). x.sizes) (c.requires.note ∙ sym c.self.view_is) in
    let heard = subst (λ (z : Sizes). HasHeard z seat.me.0 n.known.turns w) (sym same) c.hear_note.ensures.heard in
    subst (λ (x : NoteValue _). HasLearnt c.args.caller.now x.seen (caller_of c.hear_note.new.seat.table_id w a)) c.note.view_is
    (subst (λ (x : CallerValue _). HasLearnt x (history_of (sizes_of n) n.known.turns) (caller_of c.hear_note.new.seat.table_id w a)) c.caller.view_is
    (learnt_row seat.table_id c.hear_note.new.seat.table_id a seat.me.0 n w c.hear_note.ensures.own.0 (noted ∙ sym same) c.caller.invariant.0 heard))
