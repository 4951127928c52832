use Rattle.sf_dir.proofs.Keeps.{write_allows}
use Rattle.sf_dir.proofs.steps.write.Goals as goal

pub store-requires : goal.store-requires
store-requires c = (c.requires.own.0, c.requires.word, write_allows c.args.words.now.key c.args.words.now.table_id.slots c.args.seat.now.id c.args.word c.args.value c.args.seat.now.me c.requires.spare)

pub returns-clause-wrote : goal.returns-clause-wrote
returns-clause-wrote c = c.store.ensures.2 _ c.requires.own.1
