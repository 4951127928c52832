use Rattle.sf_dir.proofs.Keeps.{look_allows}
use Rattle.sf_dir.proofs.steps.look.Goals as goal

pub load-requires : goal.load-requires
load-requires c = (c.requires.own.0, c.requires.word, look_allows c.args.words.now.key c.args.words.now.table_id.slots c.args.seat.now.id c.args.word c.args.seat.now.me)

pub returns-clause-looked : goal.returns-clause-looked
returns-clause-looked c = c.load.ensures.2 _ c.requires.own.1
