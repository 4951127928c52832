use Rattle.std.proofs.Common.{arith}
use Rattle.sf_keyed_words.proofs.Telling.{finds, MayFind}
use Rattle.sf_keyed_words.proofs.steps.find_none.Goals as goal

pub load-requires : goal.load-requires
load-requires c =
    let words = c.args.words.now in
    let seat = c.args.seat.now in
    let size = c.requires.size in
    let lt = c.requires.slot.0 in let may : MayFind words.key seat.me.0 c.args.slot = record { below = lt; slot_is = c.requires.slot.1; walks = c.requires.walked.0; clear = c.requires.walked.1; looked = c.requires.walked.2; top_is = c.requires.top; other = c.requires.walked.3; sizes = c.requires.sizes } in (
      c.requires.own,
      omega arith,
      finds words.key words.table_id.slots seat.id c.args.slot seat.me may,
    )
