use Rattle.sf_keyed_words.proofs.Seating.{splits_flight}
use Rattle.sf_keyed_words.proofs.moving.split_flight.Goals as goal

pub split_seat-requires : goal.split_seat-requires
split_seat-requires c = (c.requires.own, c.requires.words, splits_flight c.args.words.now.key c.args.seat.now.id c.args.seat.now.me.0 c.requires.leads)
