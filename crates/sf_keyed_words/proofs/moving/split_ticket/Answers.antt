use Rattle.sf_keyed_words.proofs.Seating.{splits_ticket}
use Rattle.sf_keyed_words.proofs.moving.split_ticket.Goals as goal

pub split_seat-requires : goal.split_seat-requires
split_seat-requires c = (c.requires.own, c.requires.words, splits_ticket c.args.words.now.key c.args.seat.now.id c.args.seat.now.me.0)
