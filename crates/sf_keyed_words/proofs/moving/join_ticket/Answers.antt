use Rattle.sf_keyed_words.proofs.Seating.{joins_ticket}
use Rattle.sf_keyed_words.proofs.moving.join_ticket.Goals as goal

pub join_seat-requires : goal.join_seat-requires
join_seat-requires c =
    let seat = c.args.seat.now in
    let other = c.args.other in
    (c.requires.own.0, c.requires.own.1, c.requires.ticket.2, c.requires.words, joins_ticket c.args.words.now.key seat.id seat.me.0 other.id other.me.0 c.requires.idle c.requires.ticket.0 c.requires.ticket.1)
