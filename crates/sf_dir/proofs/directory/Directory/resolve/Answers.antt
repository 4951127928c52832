use Rattle.std.proofs.Common.{◌≡◌, ◌+◌, ◌-◌, ◌≤◌, ℕ, ap, refl, sym, ◌∙◌, subst, arith}
use Rattle.sf_dir.specs.Rule.{names_of}
use Rattle.sf_dir.specs.Known.{DeskState, DirectoryId, key_at}
use Rattle.sf_dir.specs.declared.rule.View.{View}
use Rattle.sf_dir.specs.Names.{AddsNone, Finds}
use Rattle.sf_dir.proofs.Seating.{shows_split}
use Rattle.sf_dir.proofs.Knowing.{same_directory, adds_none, finds, is_full, resolved_key}
use Rattle.sf_dir.proofs.directory.Directory.resolve.Goals as goal

pub returns-in_default-clause-full : goal.returns-in_default-clause-full
returns-in_default-clause-full c _ place low high =
    let full = c.in_default.ensures.full in
    let keys = ap (λ (d : DirectoryId). d.keys) c.self.view_is in
    let sizes = ap (λ z. z.keys) c.self.invariant.0 in
    is_full c.self.inside.table.shared.key.keys c.args.key.now c.find.new.seat.me.0.seen full.1 place low (omega arith)

pub returns-in_default-clause-refused : goal.returns-in_default-clause-refused
returns-in_default-clause-refused c =
    let grows = c.in_default.ensures.full.0 in
    subst (λ (d : DeskState). AddsNone d.number d.seen (names_of c.find.new.seat.me.0.seen)) c.desk.view_is (adds_none c.desk.inside.number c.desk.inside.seat.me.0 c.find.new.seat.me.0 c.desk.invariant.from c.desk.invariant.to grows)

pub split_seat-seat-requires : goal.split_seat-seat-requires
split_seat-seat-requires c =
    let same = same_directory _ _ _ _ (ap (λ (d : DeskState). d.directory) c.desk.view_is ∙ (c.requires ∙ sym c.self.view_is)) in
    let total = c.self.invariant.1 in
    (c.find.ensures.own ∙ same.0, omega arith, shows_split c.self.inside.table.shared.key c.find.new.seat.id c.find.new.seat.me.0)

-- the number of the place is the place
number_is : (number place : ℕ) → 1 ≤ place → number ≡ place - 1 + 1 → number ≡ place
number_is number place low is = omega arith

pub returns-clause-place : goal.returns-clause-place
returns-clause-place c =
    let found = c.in-Some.ensures.found in
    let number = number_is c.from_index.result c.in-Some.place found.0 c.from_index.ensures in (
      refl,
      ap (λ m. key_at m.0.seen c.from_index.result) c.split_seat-seat.ensures.4 ∙ resolved_key _ c.desk.inside.seat.me.0 c.find.new.seat.me.0 c.in-Some.place c.from_index.result c.args.key.now c.desk.invariant.sizes found.2 number,
    )

pub returns-clause-found : goal.returns-clause-found
returns-clause-found c =
    let found = c.in-Some.ensures.found in
    let number = number_is c.from_index.result c.in-Some.place found.0 c.from_index.ensures in
    let view = ap (λ m. m.0) c.split_seat-seat.ensures.2 in
    subst (λ (d : DeskState). Finds d.number d.seen (names_of c.split_seat-seat.new.seat.me.0.seen) c.from_index.result c.args.key.now) c.desk.view_is
    (subst (λ (w : View). Finds c.desk.inside.number (names_of c.desk.inside.seat.me.0.seen) (names_of w.seen) c.from_index.result c.args.key.now) (sym view)
    (subst (λ n. Finds c.desk.inside.number (names_of c.desk.inside.seat.me.0.seen) (names_of c.find.new.seat.me.0.seen) n c.args.key.now) (sym number)
    (finds c.desk.inside.number c.desk.inside.seat.me.0 c.find.new.seat.me.0 c.in-Some.place c.args.key.now c.desk.invariant.from c.desk.invariant.to found.2)))
