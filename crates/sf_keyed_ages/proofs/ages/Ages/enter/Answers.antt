use Rattle.std.proofs.Common.{rules}
use Rattle.sf_keyed_ages.proofs.Aging.{sits_at}
use Rattle.sf_keyed_ages.proofs.ages.Ages.enter.Goals as goal

pub load_new_seat-seat-requires : goal.load_new_seat-seat-requires
load_new_seat-seat-requires c = (search rules, sits_at c.self.inside.table.shared.key c.self.inside.table.shared.table_id.slots 0)
