use Rattle.std.proofs.Common.{◌≡◌, ◌+◌, eqb, refl, sym, subst, arith}
use prog.Atomic.{either}
use Rattle.atomic_table.specs.Table.{Allows}
use Rattle.sf_keyed_words.specs.Rule.{Holds}
use Rattle.sf_keyed_words.specs.Plays.{try_claim}
use Rattle.sf_keyed_words.proofs.Claiming.{claims, MayClaim}
use Rattle.sf_keyed_words.proofs.steps.claim.Goals as goal

pub compare_exchange-requires : goal.compare_exchange-requires
compare_exchange-requires c =
    let words = c.args.words.now in
    let seat = c.args.seat.now in
    let size = c.requires.size in
    let is = c.requires.at.0 in
    let lt = c.requires.at.1 in
    let may : MayClaim words.key seat.me.0 c.args.cell c.args.old (c.args.old + 12582913) = record { cell = c.requires.at.1; small = c.requires.at.2; free = c.requires.free.0; new_is = refl; idle = c.requires.idle; sizes = c.requires.sizes } in (
      c.requires.own,
      omega arith,
      subst (λ i. Allows (Holds words.key) words.table_id.slots seat.id seat.me i (λ n. either (eqb n c.args.old) (c.args.old + 12582913) n) (λ n after. after.0 ≡ try_claim seat.me.0 i c.args.old n)) (sym is) (claims words.key words.table_id.slots seat.id c.args.cell c.args.old (c.args.old + 12582913) seat.me may),
    )
