use Rattle.std.proofs.Common.{◌≡◌, ℕ, ◌+◌, eqb, refl, sym, subst, arith}
use prog.Atomic.{either}
use Rattle.atomic_table.specs.Table.{Allows}
use Rattle.sf_keyed_words.specs.Rule.{sides_from, Holds}
use Rattle.sf_keyed_words.specs.Plays.{try_aside}
use Rattle.sf_keyed_words.proofs.Tops.{asides_allowed, MayAside}
use Rattle.sf_keyed_words.proofs.steps.set_aside.Goals as goal

pub compare_exchange-requires : goal.compare_exchange-requires
compare_exchange-requires c =
    let words = c.args.words.now in
    let seat = c.args.seat.now in
    let size = c.requires.size in
    let is = c.requires.at.0 in let lt = c.requires.at.1 in
    let j : ℕ = sides_from seat.me.0.slot + c.args.side in
    let may : MayAside words.key seat.me.0 j c.args.old c.args.new = record { below = lt; at = c.args.side; within = c.requires.at.2; place = refl; walks = c.requires.walks.0; dead = c.requires.walks.1; old_is = c.requires.calls.1; new_is = c.requires.calls.2 } in (
      c.requires.own,
      omega arith,
      subst (λ i. Allows (Holds words.key) words.table_id.slots seat.id seat.me i (λ n. either (eqb n c.args.old) c.args.new n) (λ n after. after.0 ≡ try_aside seat.me.0 c.args.old n)) (sym is) (asides_allowed words.key words.table_id.slots seat.id j c.args.old c.args.new seat.me may),
    )
