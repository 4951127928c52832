use Rattle.std.proofs.Common.{◌≡◌, sym, subst, arith}
use Rattle.atomic_table.specs.Table.{Allows}
use Rattle.sf_keyed_words.specs.Rule.{Holds}
use Rattle.sf_keyed_words.specs.Plays.{named_as}
use Rattle.sf_keyed_words.proofs.Stores.{finds_high}
use Rattle.sf_keyed_words.proofs.steps.find_high.Goals as goal

pub load-requires : goal.load-requires
load-requires c =
    let words = c.args.words.now in
    let seat = c.args.seat.now in
    let size = c.requires.size in
    let is = c.requires.at.0 in
    let lt = c.requires.at.1 in (
      c.requires.own,
      omega arith,
      subst (λ i. Allows (Holds words.key) words.table_id.slots seat.id seat.me i (λ n. n) (λ n after. after.0 ≡ named_as seat.me.0 n)) (sym is) (finds_high words.key words.table_id.slots seat.id seat.me c.requires.call.0 c.requires.call.1),
    )
