use Rattle.std.proofs.Common.{ℕ, ◌%◌, true, eq-eqb, sym, ◌∙◌, ap, subst, arith}
use Rattle.std.proofs.lemmas.Bool.{true≢false}
use Rattle.sf_keyed_walks.specs.declared.walk.Walked.{Walked}
use Rattle.sf_keyed_walks.specs.declared.walk.Way.{Way}
use Rattle.sf_keyed_walks.specs.declared.walk.Way.TheVariants.{Met, Through}
use Rattle.sf_keyed_walks.specs.Walk.{WentThrough}
use Rattle.sf_keyed_words.specs.Rule.{number}
use Rattle.sf_keyed_walks.proofs.Sides.{through_first, through_sides}
use Rattle.sf_keyed_walks.proofs.walk.walk_slot.Goals as goal
use Rattle.sf_keyed_walks.proofs.walk.walk_slot.Goals.{then-found-eq1, else-found-eq1}

pub walk_sides-requires-clause-top : goal.walk_sides-requires-clause-top
walk_sides-requires-clause-top c = (c.look_first.ensures.began c.in-Through.found c.in-Through.on c.in-Through.is).looked

pub walk_sides-requires-clause-opened : goal.walk_sides-requires-clause-opened
walk_sides-requires-clause-opened c = (c.look_first.ensures.began c.in-Through.found c.in-Through.on c.in-Through.is).opened

pub walk_sides-requires-clause-marks : goal.walk_sides-requires-clause-marks
walk_sides-requires-clause-marks c = (c.look_first.ensures.began c.in-Through.found c.in-Through.on c.in-Through.is).marks

pub walk_sides-requires-clause-taken : goal.walk_sides-requires-clause-taken
walk_sides-requires-clause-taken c = (c.look_first.ensures.began c.in-Through.found c.in-Through.on c.in-Through.is).taken

abbrev top_in : Way → ℕ
top_in (Met call state) = 0
top_in (Through found on) = found

abbrev on_in : Way → Walked
on_in (Met call state) = record { aside = true; marks = true; taken = true }
on_in (Through found on) = on

pub returns-then-on-clause-through : goal.returns-then-on-clause-through
returns-then-on-clause-through c found on is =
    let b = c.look_first.ensures.began c.in-Through.found c.in-Through.on c.in-Through.is in
    let t = c.walk_sides.ensures.through found on is in
    subst (λ n. WentThrough c.args.sizes c.args.slot n (number c.args.name) c.walk_sides.new.seat.me.0 c.args.leads on) (sym t.0)
    (through_sides c.args.sizes c.args.slot c.in-Through.found (number c.args.name) c.look_first.new.seat.me.0 c.walk_sides.new.seat.me.0 c.args.leads c.in-Through.on on b t.1 t.2)

pub returns-else-on-clause-through : goal.returns-else-on-clause-through
returns-else-on-clause-through c found on is =
    let b = c.look_first.ensures.began c.in-Through.found c.in-Through.on c.in-Through.is in
    let at : ℕ → Walked → Type 0 = λ n q. WentThrough c.args.sizes c.args.slot n (number c.args.name) c.look_first.new.seat.me.0 c.args.leads q in
    let here : at c.in-Through.found c.in-Through.on = elim c.if-found-eq1.branch [
      | then-found-eq1 w ↦ absurd (true≢false (sym (eq-eqb (c.in-Through.found % 2) 1 w.if-found-eq1.true) ∙ (sym w.value-is ∙ c.if-on.false)))
      | else-found-eq1 w ↦ through_first c.args.sizes c.args.slot c.in-Through.found (number c.args.name) c.look_first.new.seat.me.0 c.args.leads c.in-Through.on b w.if-found-eq1.false (sym w.value-is ∙ c.if-on.false)
    ] in
    subst (λ n. at n on) (ap top_in is) (subst (at c.in-Through.found) (ap on_in is) here)

pub returns-then-on-clause-taken : goal.returns-then-on-clause-taken
returns-then-on-clause-taken c found on is took =
    let less = (c.walk_sides.ensures.through found on is).2.taken took in
    let le = c.look_first.ensures.stays.lost in omega (arith, less, le)

pub returns-else-on-clause-taken : goal.returns-else-on-clause-taken
returns-else-on-clause-taken c found on is took =
    let b = c.look_first.ensures.began c.in-Through.found c.in-Through.on c.in-Through.is in
    absurd (true≢false (sym took ∙ (sym (ap (λ q. q.taken) (ap on_in is)) ∙ b.taken)))
