use Rattle.sf_dir.proofs.Keeps.{draw_allows}
use Rattle.std.proofs.Common.{arith}
use Rattle.sf_dir.proofs.steps.draw.Goals as goal

pub fetch_add-requires : goal.fetch_add-requires
fetch_add-requires c = let size = c.requires.limits.1 in let at = c.requires.counter in (
  c.requires.own.0,
  omega arith,
  draw_allows c.args.words.now.key c.args.words.now.table_id.slots c.args.seat.now.id c.args.counter c.args.seat.now.me c.requires.limits.2 c.requires.counter c.requires.free.0 c.requires.free.1,
)

pub returns-clause-drew : goal.returns-clause-drew
returns-clause-drew c = c.fetch_add.ensures.2 _ c.requires.own.1
