use Rattle.std.proofs.Common.{arith}
use Rattle.sf_dir.proofs.Publishing.{publish_allows, may_within}
use Rattle.sf_dir.proofs.steps.publish.Goals as goal

pub compare_exchange-requires : goal.compare_exchange-requires
compare_exchange-requires c =
    let size = c.requires.limits.1 in
    let within = may_within _ _ _ _ _ c.requires.may.1 in (
      c.requires.own.0,
      omega arith,
      publish_allows c.args.words.now.key c.args.words.now.table_id.slots c.args.seat.now.id c.args.place c.args.row c.requires.may.0 c.args.seat.now.me c.requires.may.1,
    )

pub returns-clause-tried : goal.returns-clause-tried
returns-clause-tried c = c.compare_exchange.ensures.2 _ c.requires.own.1

pub overflow_add-row : goal.overflow_add-row
overflow_add-row c = let limits = c.requires.limits.2 in let keys = limits.keys in let desks = limits.desks in let row = c.requires.row in omega arith
