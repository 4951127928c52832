use Rattle.std.proofs.Common.{rules, ◌+◌, refl}
use Rattle.sf_keyed_ages.proofs.Aging.{ends_at}
use Rattle.sf_keyed_ages.proofs.ages.Ages.add.Goals as goal

pub compare_exchange-found-requires : goal.compare_exchange-found-requires
compare_exchange-found-requires c =
    let shared = c.self.inside.table.shared in
    let seat = c.me.inside.seat in
    (search rules, search rules, ends_at shared.key shared.table_id.slots seat.id c.args.slot c.args.age (c.args.age + 1) seat.me (search rules) (search rules) refl)
