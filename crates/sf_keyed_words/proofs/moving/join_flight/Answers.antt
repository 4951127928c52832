use Rattle.sf_keyed_words.proofs.Seating.{joins_flight}
use Rattle.sf_keyed_words.proofs.moving.join_flight.Goals as goal

pub join_seat-requires : goal.join_seat-requires
join_seat-requires c =
    let seat = c.args.seat.now in
    let other = c.args.other in
    (c.requires.own.0, c.requires.own.1, c.requires.flight.3, c.requires.words, joins_flight c.args.words.now.key seat.id seat.me.0 other.id other.me.0 c.requires.idle c.requires.flight.0 c.requires.flight.1 c.requires.flight.2)
