use Rattle.std.proofs.Common.{Option, ap, sym, ◌∙◌, subst, arith}
use Rattle.atomic_table.specs.Table.{Me}
use Rattle.sf_steps_laws.specs.declared.letter.Letter.{Letter}
use Rattle.sf_group_rows.specs.Tokens.{GroupValue, CallerValue}
use Rattle.sf_group_rows.specs.Notes.{HasTold}
use Rattle.sf_group_steps.specs.declared.view.View.{View}
use Rattle.sf_group_steps.proofs.Seats.{tells_split}
use Rattle.sf_group.specs.Known.{caller_of, note_value}
use Rattle.sf_group.proofs.NoteRows.{told_row}
use Rattle.sf_group.proofs.group.Group.tell.Goals as goal

pub split_seat-seat-requires : goal.split_seat-seat-requires
split_seat-seat-requires g c = let one = c.self.invariant.1 in (
  ap (λ (x : CallerValue _). x.group.table) c.caller.view_is ∙ ap (λ (x : GroupValue). x.table) (c.requires ∙ sym c.self.view_is),
  omega arith,
  tells_split g.V.Fit.fits c.self.inside.table.shared.key c.caller.inside.seated.seat.id c.caller.inside.seated.seat.me.0,
)

pub returns : goal.returns
returns g c =
    let seat = c.caller.inside.seated.seat in
    let done = c.split_seat-seat.ensures in
    let a = c.caller.inside.seated.number in
    subst (λ (x : CallerValue _). HasTold x (caller_of c.split_seat-seat.new.seat.table_id c.split_seat-seat.new.seat.me.0 a) (note_value c.split_seat-seat.result.table_id c.split_seat-seat.result.me.0)) c.caller.view_is
    (told_row seat.table_id c.split_seat-seat.new.seat.table_id c.split_seat-seat.result.table_id a seat.me.0 c.split_seat-seat.new.seat.me.0 c.split_seat-seat.result.me.0 done.0 done.3
    (ap (λ (m : Me (Option (Letter _)) (View _)). m.0) done.2) (ap (λ (m : Me (Option (Letter _)) (View _)). m.0) done.4) c.caller.invariant.0)
