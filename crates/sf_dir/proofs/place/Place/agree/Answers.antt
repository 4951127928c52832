use Rattle.std.proofs.Common.{◌≡◌, [], ap, sym, ◌∙◌, subst, arith}
use Rattle.sf_dir.specs.declared.rule.View.{View}
use Rattle.sf_dir.specs.Rule.{note_of, both_of}
use Rattle.sf_dir.specs.Plays.{Grows}
use Rattle.sf_dir.specs.Known.{PlaceState, key_at}
use Rattle.sf_dir.proofs.Seating.{shows_split, shows_join}
use Rattle.sf_dir.proofs.Knowing.{same_directory, place_later, directory_later, key_kept, key_told}
use Rattle.sf_dir.proofs.place.Place.agree.Goals as goal

pub split_seat-note-requires : goal.split_seat-note-requires
split_seat-note-requires c =
    let same = same_directory _ _ _ _ (sym c.other.invariant.1 ∙ (ap (λ (p : PlaceState). p.directory) c.other.view_is ∙ (sym c.requires.directory ∙ (sym (ap (λ (p : PlaceState). p.directory) c.self.view_is) ∙ sym c.directory.view_is)))) in
    let total = c.directory.invariant.1 in
    (same.0, omega arith, shows_split c.directory.inside.table.shared.key c.other.inside.seat.id c.other.inside.seat.me.0)

pub join_seat-requires : goal.join_seat-requires
join_seat-requires c =
    let mine = same_directory _ _ _ _ (sym c.self.invariant.1 ∙ sym c.directory.view_is) in
    let theirs = same_directory _ _ _ _ (sym c.other.invariant.1 ∙ (ap (λ (p : PlaceState). p.directory) c.other.view_is ∙ (sym c.requires.directory ∙ (sym (ap (λ (p : PlaceState). p.directory) c.self.view_is) ∙ sym c.directory.view_is)))) in
    let total = c.directory.invariant.1 in
    (mine.0, c.split_seat-note.ensures.3 ∙ theirs.0, ap (λ m. m.1) c.split_seat-note.ensures.4, omega arith, shows_join c.directory.inside.table.shared.key c.self.inside.seat.id c.split_seat-note.result.id c.self.inside.seat.me.0 c.split_seat-note.result.me.0)

pub invariant_of-self : goal.invariant_of-self
invariant_of-self c =
    let v : View = c.self.inside.seat.me.0 in
    let u : View = note_of c.other.inside.seat.me.0 in
    let w : View = c.look.new.seat.me.0 in
    let joined : c.join_seat.new.seat.me.0 ≡ both_of v u = ap (λ m. m.0) c.join_seat.ensures.2 ∙ ap (λ m. both_of v m.0) c.split_seat-note.ensures.4 in
    let grows : Grows (both_of v u) w [] = subst (λ (x : View). Grows x w []) joined c.look.ensures.looked.grows in
    (place_later c.self.inside.number v u w c.self.invariant.0 grows, c.self.invariant.1 ∙ directory_later c.self.inside.seat.table_id c.look.new.seat.table_id v u w (c.look.ensures.own ∙ c.join_seat.ensures.0) grows)

pub returns-clause-same : goal.returns-clause-same
returns-clause-same c =
    let v : View = c.self.inside.seat.me.0 in
    let u : View = note_of c.other.inside.seat.me.0 in
    let w : View = c.look.new.seat.me.0 in
    let joined : c.join_seat.new.seat.me.0 ≡ both_of v u = ap (λ m. m.0) c.join_seat.ensures.2 ∙ ap (λ m. both_of v m.0) c.split_seat-note.ensures.4 in
    let grows : Grows (both_of v u) w [] = subst (λ (x : View). Grows x w []) joined c.look.ensures.looked.grows in
    let number : c.self.inside.number ≡ c.other.inside.number = ap (λ (p : PlaceState). p.number) c.self.view_is ∙ (c.requires.number ∙ sym (ap (λ (p : PlaceState). p.number) c.other.view_is)) in
    sym (ap (λ (p : PlaceState). p.key) c.self.view_is) ∙ (sym (key_kept c.self.inside.number v u w c.self.invariant.0 grows) ∙ (ap (key_at w.seen) number ∙ (key_told c.other.inside.number v u w c.other.invariant.0.named grows ∙ ap (λ (p : PlaceState). p.key) c.other.view_is)))

pub returns-clause-kept : goal.returns-clause-kept
returns-clause-kept c =
    let v : View = c.self.inside.seat.me.0 in
    let u : View = note_of c.other.inside.seat.me.0 in
    let w : View = c.look.new.seat.me.0 in
    let joined : c.join_seat.new.seat.me.0 ≡ both_of v u = ap (λ m. m.0) c.join_seat.ensures.2 ∙ ap (λ m. both_of v m.0) c.split_seat-note.ensures.4 in
    let grows : Grows (both_of v u) w [] = subst (λ (x : View). Grows x w []) joined c.look.ensures.looked.grows in (
      ap (λ k. record { directory = c.self.inside.directory.now; number = c.self.inside.number; key = k }) (key_kept c.self.inside.number v u w c.self.invariant.0 grows) ∙ c.self.view_is,
      ap (λ m. record { directory = c.other.inside.directory.now; number = c.other.inside.number; key = key_at m.0.seen c.other.inside.number }) c.split_seat-note.ensures.2 ∙ c.other.view_is,
    )
