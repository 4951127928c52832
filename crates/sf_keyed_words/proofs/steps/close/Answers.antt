use Rattle.std.proofs.Common.{◌≡◌, ◌+◌, ◌-◌, eqb, sym, subst, arith}
use prog.Atomic.{either}
use Rattle.atomic_table.specs.Table.{Allows}
use Rattle.sf_keyed_words.specs.Rule.{Holds}
use Rattle.sf_keyed_words.specs.Plays.{tries_close}
use Rattle.sf_keyed_words.proofs.Closing.{closes_allowed, MayClose}
use Rattle.sf_keyed_words.proofs.steps.close.Goals as goal

pub compare_exchange-requires : goal.compare_exchange-requires
compare_exchange-requires c =
    let words = c.args.words.now in
    let seat = c.args.seat.now in
    let size = c.requires.size in
    let is = c.requires.at.0 in
    let lt = c.requires.at.1 in
    let two = c.requires.opened.2 in
    let enough : (c.args.old - 4194304) + 4194304 ≡ c.args.old = omega (arith, two) in
    let may : MayClose words.key seat.me.0 c.args.old (c.args.old - 4194304) = record { cell = c.requires.at.1; some_call = c.requires.call.0; told = c.requires.call.1; opened = c.requires.opened.0; new_is = enough } in (
      c.requires.own,
      omega arith,
      subst (λ i. Allows (Holds words.key) words.table_id.slots seat.id seat.me i (λ n. either (eqb n c.args.old) (c.args.old - 4194304) n) (λ n after. tries_close seat.me.0 c.args.old n after.0)) (sym is) (closes_allowed words.key words.table_id.slots seat.id c.args.old (c.args.old - 4194304) seat.me may),
    )
