use Rattle.std.proofs.Common.{sym, ◌∙◌, arith}
use Rattle.sf_dir.proofs.Seating.{shows_split}
use Rattle.sf_dir.proofs.Knowing.{same_directory}
use Rattle.sf_dir.proofs.place.Place.again.Goals as goal

pub split_seat-seat-requires : goal.split_seat-seat-requires
split_seat-seat-requires c =
    let same = same_directory _ _ _ _ (sym c.self.invariant.1 ∙ sym c.directory.view_is) in
    let total = c.directory.invariant.1 in
    (same.0, omega arith, shows_split c.directory.inside.table.shared.key c.self.inside.seat.id c.self.inside.seat.me.0)
