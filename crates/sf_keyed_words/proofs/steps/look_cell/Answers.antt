use Rattle.sf_keyed_words.proofs.Loads.{looks_at_cell}
use Rattle.sf_keyed_words.proofs.steps.look_cell.Goals as goal

pub load-requires : goal.load-requires
load-requires c =
    let words = c.args.words.now in
    let seat = c.args.seat.now in (c.requires.own, c.requires.at, looks_at_cell words.key words.table_id.slots seat.id c.args.at seat.me)
