use Rattle.std.proofs.Common.{rules}
use Rattle.sf_keyed_ages.proofs.Aging.{shares_at}
use Rattle.sf_keyed_ages.proofs.ages.Ages.tell.Goals as goal

pub split_seat-seat-requires : goal.split_seat-seat-requires
split_seat-seat-requires c =
    let seat = c.me.inside.seat in
    (search rules, search rules, shares_at c.self.inside.table.shared.key seat.id seat.me.0)
