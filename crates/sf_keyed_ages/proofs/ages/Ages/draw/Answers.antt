use Rattle.std.proofs.Common.{rules}
use Rattle.sf_keyed_ages.proofs.Aging.{sees_at}
use Rattle.sf_keyed_ages.proofs.ages.Ages.draw.Goals as goal

pub load-requires : goal.load-requires
load-requires c =
    let shared = c.self.inside.table.shared in
    let seat = c.me.inside.seat in
    (search rules, search rules, sees_at shared.key shared.table_id.slots seat.id c.args.slot seat.me (search rules))
