use Rattle.std.proofs.Common.{eqb, sym, subst, arith}
use prog.Atomic.{either}
use Rattle.atomic_table.specs.Table.{Allows}
use Rattle.sf_keyed_words.specs.Rule.{Holds}
use Rattle.sf_keyed_words.specs.Plays.{tries_join}
use Rattle.sf_keyed_words.proofs.Joining.{joins, MayJoin}
use Rattle.sf_keyed_words.proofs.steps.join.Goals as goal

pub compare_exchange-requires : goal.compare_exchange-requires
compare_exchange-requires c =
    let words = c.args.words.now in
    let seat = c.args.seat.now in
    let size = c.requires.size in
    let is = c.requires.at.0 in
    let lt = c.requires.at.1 in
    let may : MayJoin words.key seat.me.0 c.args.old c.args.new = record { cell = c.requires.at.1; some_call = c.requires.call.0; told = c.requires.call.1; opened = c.requires.opened.0; upper = c.requires.more.0; bit = c.requires.more.1; holder = c.requires.more.2; idle = c.requires.idle } in (
      c.requires.own,
      omega arith,
      subst (λ i. Allows (Holds words.key) words.table_id.slots seat.id seat.me i (λ n. either (eqb n c.args.old) c.args.new n) (λ n after. tries_join seat.me.0 c.args.old n after.0)) (sym is) (joins words.key words.table_id.slots seat.id c.args.old c.args.new seat.me may),
    )
