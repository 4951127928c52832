use Rattle.sf_keyed_words.proofs.Loads.{numbers_allowed}
use Rattle.sf_keyed_words.proofs.opening.number_as.Goals as goal

pub compare_exchange-requires : goal.compare_exchange-requires
compare_exchange-requires c =
    let words = c.args.words.now in
    let seat = c.args.seat.now in (c.requires.own, c.requires.words, numbers_allowed words.key words.table_id.slots seat.id 0 c.args.number seat.me)
