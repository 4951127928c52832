use Rattle.std.proofs.Common.{◌+◌, ◌%◌, sym, subst, arith}
use Rattle.atomic_table.specs.Table.{Allows}
use Rattle.sf_keyed_words.specs.Rule.{Holds}
use Rattle.sf_keyed_words.specs.Plays.{settles}
use Rattle.sf_keyed_words.proofs.Settling.{settles_allowed, MaySettle}
use Rattle.sf_keyed_words.proofs.steps.settle.Goals as goal

pub fetch_add-requires : goal.fetch_add-requires
fetch_add-requires c =
    let words = c.args.words.now in
    let seat = c.args.seat.now in
    let size = c.requires.size in
    let is = c.requires.at.0 in
    let lt = c.requires.at.1 in
    let may : MaySettle words.key seat.me.0 = record { leads_one = c.requires.leads.0; stored = c.requires.leads.1; idle = c.requires.idle } in (
      c.requires.own,
      omega arith,
      subst (λ i. Allows (Holds words.key) words.table_id.slots seat.id seat.me i (λ n. (n + 2097152) % 18446744073709551616) (λ n after. settles seat.me.0 n after.0)) (sym is) (settles_allowed words.key words.table_id.slots seat.id seat.me may),
    )
