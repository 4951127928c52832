use Rattle.std.proofs.Common.{sym, subst, arith}
use Rattle.atomic_table.specs.Table.{Allows}
use Rattle.sf_keyed_words.specs.Rule.{Holds}
use Rattle.sf_keyed_words.specs.Plays.{takes_last}
use Rattle.sf_keyed_words.proofs.Telling.{takes_last_allowed}
use Rattle.sf_keyed_words.proofs.steps.last_value_of.Goals as goal

pub load-requires : goal.load-requires
load-requires c =
    let words = c.args.words.now in
    let seat = c.args.seat.now in
    let size = c.requires.size in
    let is = c.requires.at.0 in let lt = c.requires.at.1 in (
      c.requires.own,
      omega arith,
      subst (λ i. Allows (Holds words.key) words.table_id.slots seat.id seat.me i (λ n. n) (λ n after. takes_last seat.me.0 n after.0)) (sym is) (takes_last_allowed words.key words.table_id.slots seat.id seat.me c.requires.last),
    )
