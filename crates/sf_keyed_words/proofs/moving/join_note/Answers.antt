use Rattle.sf_keyed_words.proofs.Seating.{joins_note}
use Rattle.sf_keyed_words.proofs.moving.join_note.Goals as goal

pub join_seat-requires : goal.join_seat-requires
join_seat-requires c =
    let seat = c.args.seat.now in
    let other = c.args.other in
    (c.requires.own.0, c.requires.own.1, c.requires.bare.3, c.requires.words, joins_note c.args.words.now.key seat.id seat.me.0 other.id other.me.0 c.requires.bare.0 c.requires.bare.1 c.requires.bare.2)
