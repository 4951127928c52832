use Rattle.sf_keyed_words.proofs.Seating.{enters}
use Rattle.sf_keyed_words.proofs.opening.enter.Goals as goal

pub load_new_seat-seat-requires : goal.load_new_seat-seat-requires
load_new_seat-seat-requires c = (c.requires.words, enters c.args.words.now.key c.args.words.now.table_id.slots 0)
