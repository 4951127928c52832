use Rattle.std.proofs.Common.{ap, sym, ◌∙◌, arith}
use Rattle.sf_group_rows.specs.Tokens.{GroupValue, NoteValue}
use Rattle.sf_group_steps.proofs.Seats.{tells_split}
use Rattle.sf_group.proofs.group.Group.again.Goals as goal

pub split_seat-seat-requires : goal.split_seat-seat-requires
split_seat-seat-requires g c = let one = c.self.invariant.1 in (
  ap (λ (x : NoteValue _). x.group.table) c.note.view_is ∙ ap (λ (x : GroupValue). x.table) (c.requires ∙ sym c.self.view_is),
  omega arith,
  tells_split g.V.Fit.fits c.self.inside.table.shared.key c.note.inside.seat.id c.note.inside.seat.me.0,
)
