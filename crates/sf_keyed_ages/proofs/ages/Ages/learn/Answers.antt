use Rattle.std.proofs.Common.{rules}
use Rattle.sf_keyed_ages.proofs.Aging.{learns_at}
use Rattle.sf_keyed_ages.proofs.ages.Ages.learn.Goals as goal

pub join_seat-requires : goal.join_seat-requires
join_seat-requires c =
    let seat = c.me.inside.seat in
    let other = c.note.inside.seat in
    (search rules, search rules, search rules, search rules, learns_at c.self.inside.table.shared.key seat.id seat.me.0 other.id other.me.0)
