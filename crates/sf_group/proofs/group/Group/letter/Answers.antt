use Rattle.std.proofs.Common.{ap, sym, ◌∙◌, arith}
use Rattle.sf_group_rows.specs.Tokens.{GroupValue}
use Rattle.sf_group_steps.proofs.Seats.{tells_split}
use Rattle.sf_group.proofs.group.Group.letter.Goals as goal

pub split_seat-requires : goal.split_seat-requires
split_seat-requires g c = let one = c.self.invariant.1 in (
  c.requires.own ∙ sym (ap (λ (x : GroupValue). x.table) c.self.view_is),
  omega arith,
  tells_split g.V.Fit.fits c.self.inside.table.shared.key c.args.seat.now.id c.args.seat.now.me.0,
)
