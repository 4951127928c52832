use Rattle.std.proofs.Common.{◌+◌, eqb, refl, sym, subst, arith}
use prog.Atomic.{either}
use Rattle.atomic_table.specs.Table.{Allows}
use Rattle.sf_keyed_words.specs.Rule.{Holds}
use Rattle.sf_keyed_words.specs.Plays.{tries_alone}
use Rattle.sf_keyed_words.proofs.Settling.{settles_alone, MayAlone}
use Rattle.sf_keyed_words.proofs.steps.settle_alone.Goals as goal

pub compare_exchange-requires : goal.compare_exchange-requires
compare_exchange-requires c =
    let words = c.args.words.now in
    let seat = c.args.seat.now in
    let size = c.requires.size in
    let is = c.requires.at.0 in
    let lt = c.requires.at.1 in
    let may : MayAlone words.key seat.me.0 c.args.old (c.args.old + 8388608) = record { leads_one = c.requires.alone.0; alone = c.requires.alone.1; new_is = refl; idle = c.requires.idle } in (
      c.requires.own,
      omega arith,
      subst (λ i. Allows (Holds words.key) words.table_id.slots seat.id seat.me i (λ n. either (eqb n c.args.old) (c.args.old + 8388608) n) (λ n after. tries_alone seat.me.0 c.args.old n after.0)) (sym is) (settles_alone words.key words.table_id.slots seat.id c.args.old (c.args.old + 8388608) seat.me may),
    )
