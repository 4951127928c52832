use Rattle.sf_keyed_words.proofs.Seating.{hears}
use Rattle.sf_keyed_words.proofs.moving.hear.Goals as goal

pub load-requires : goal.load-requires
load-requires c =
    let words = c.args.words.now in
    let seat = c.args.seat.now in
    (c.requires.own, c.requires.words, hears words.key words.table_id.slots seat.id 0 seat.me)
