use Rattle.std.proofs.Common.{rules, Bor}
use Rattle.std.proofs.lemmas.List.Sorted.{IsPartitionPoint-from_clause}
use Rattle.std.specs.Ordering.{is_lt}
use Rattle.sf_replay.proofs.MergedOrder.{keys_parted, place_is}
use Rattle.sf_replay.proofs.merging.place_of.Goals as goal

pub returns : goal.returns
returns g c =
    let keys = c.args.keys.now in
    let key = c.args.key.now in
    let parted = keys_parted g.K.Ord.cmp g.met.K.Ord.total keys key c.requires in
    place_is g.K.Ord.cmp keys key c.partition_point.result c.partition_point.ensures.bound
    (IsPartitionPoint-from_clause (λ (b : Bor g.row.K.Denot). is_lt (g.K.Ord.cmp b.now key)) keys c.partition_point.result c.partition_point.ensures.partitioned parted (λ a r f k. search rules))
