use Rattle.std.proofs.Common.{◌≡◌, [], ap, sym, ◌∙◌, subst, arith}
use Rattle.sf_dir.specs.declared.rule.View.{View}
use Rattle.sf_dir.specs.Rule.{names_of, note_of, both_of}
use Rattle.sf_dir.specs.Known.{DeskState, Learns, directory_of, sizes_of}
use Rattle.sf_dir.specs.Plays.{Grows}
use Rattle.sf_dir.proofs.Seating.{shows_split, shows_join}
use Rattle.sf_dir.proofs.Knowing.{same_directory, learns}
use Rattle.sf_dir.proofs.directory.Directory.tell.Goals as goal

pub split_seat-note-requires : goal.split_seat-note-requires
split_seat-note-requires c =
    let same = same_directory _ _ _ _ (ap (λ (d : DeskState). d.directory) c.from.view_is ∙ (c.requires.from ∙ sym c.self.view_is)) in
    let total = c.self.invariant.1 in
    (same.0, omega arith, shows_split c.self.inside.table.shared.key c.from.inside.seat.id c.from.inside.seat.me.0)

pub join_seat-requires : goal.join_seat-requires
join_seat-requires c =
    let from = same_directory _ _ _ _ (ap (λ (d : DeskState). d.directory) c.from.view_is ∙ (c.requires.from ∙ sym c.self.view_is)) in
    let to = same_directory _ _ _ _ (ap (λ (d : DeskState). d.directory) c.to.view_is ∙ (c.requires.to ∙ sym c.self.view_is)) in
    let total = c.self.invariant.1 in
    (to.0, c.split_seat-note.ensures.3 ∙ from.0, ap (λ m. m.1) c.split_seat-note.ensures.4, omega arith, shows_join c.self.inside.table.shared.key c.to.inside.seat.id c.split_seat-note.result.id c.to.inside.seat.me.0 c.split_seat-note.result.me.0)

pub returns-clause-to : goal.returns-clause-to
returns-clause-to c =
    let v : View = c.to.inside.seat.me.0 in
    let w : View = c.look.new.seat.me.0 in
    let note = ap (λ m. m.0) c.split_seat-note.ensures.4 in
    let joined : c.join_seat.new.seat.me.0 ≡ both_of v (note_of c.from.inside.seat.me.0) = ap (λ m. m.0) c.join_seat.ensures.2 ∙ ap (both_of v) note in
    let grows : Grows (both_of v (note_of c.from.inside.seat.me.0)) w [] = subst (λ (u : View). Grows u w []) joined c.look.ensures.looked.grows in
    subst (λ (d : DeskState). Learns d (record { directory = directory_of c.look.new.seat.table_id (sizes_of w); number = c.to.inside.number; seen = names_of w.seen }) c.args.from.now.seen) c.to.view_is
    (subst (λ (d : DeskState). Learns (record { directory = directory_of c.to.inside.seat.table_id (sizes_of v); number = c.to.inside.number; seen = names_of v.seen }) (record { directory = directory_of c.look.new.seat.table_id (sizes_of w); number = c.to.inside.number; seen = names_of w.seen }) d.seen) c.from.view_is
    (learns c.to.inside.seat.table_id c.look.new.seat.table_id c.to.inside.number v (note_of c.from.inside.seat.me.0) w (c.look.ensures.own ∙ c.join_seat.ensures.0) c.to.invariant.sizes c.to.invariant.from c.to.invariant.to c.to.invariant.told grows))
