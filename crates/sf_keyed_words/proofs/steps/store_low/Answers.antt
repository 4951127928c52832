use Rattle.std.proofs.Common.{◌≡◌, sym, subst, arith}
use Rattle.atomic_table.specs.Table.{Allows}
use Rattle.sf_keyed_words.specs.Rule.{Holds}
use Rattle.sf_keyed_words.specs.Plays.{begun_as}
use Rattle.sf_keyed_words.proofs.Stores.{begins}
use Rattle.sf_keyed_words.proofs.steps.store_low.Goals as goal

pub store-requires : goal.store-requires
store-requires c =
    let words = c.args.words.now in
    let seat = c.args.seat.now in
    let size = c.requires.size in
    let is = c.requires.at.0 in let lt = c.requires.at.1 in (
      c.requires.own,
      omega arith,
      subst (λ i. Allows (Holds words.key) words.table_id.slots seat.id seat.me i (λ _. c.args.low) (λ _ after. after.0 ≡ begun_as seat.me.0 c.args.low)) (sym is) (begins words.key words.table_id.slots seat.id c.args.low seat.me c.requires.call (omega arith)),
    )
