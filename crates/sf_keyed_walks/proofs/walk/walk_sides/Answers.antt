use Rattle.std.proofs.Common.{◌≡◌, ℕ, ◌+◌, sym, ◌∙◌, ap, subst}
use Rattle.std.proofs.lemmas.Bool.{true≢false}
use mathlib.Core.Bool.{not}
use Rattle.atomic_table.specs.declared.shared.Seat.{Seat}
use Rattle.sf_keyed_words.specs.declared.rule.View.{View}
use Rattle.sf_keyed_walks.specs.declared.walk.Walked.{Walked}
use Rattle.sf_keyed_words.specs.Rule.{number}
use Rattle.sf_keyed_walks.proofs.Sides.{Knows, Loaded, loaded_top, loaded_other, passed_other, passed_closed, passed_won, passed_lost}
use Rattle.sf_keyed_walks.proofs.walk.walk_sides.Goals as goal
use Rattle.sf_keyed_walks.proofs.walk.walk_sides.Goals.{then-call-found, else-call-found, in-Other+then-not-on+then-slot_of-slot, in-Other+else-not-on, else-not-on-via-then-not-on+else-slot_of-slot, else-not-on-via-else-not-on, in-Closed+then-on+then-set_aside-named, in-Closed+then-on+else-set_aside-named, in-Closed+else-on}

at_seat : (c : goal.Joined-examine) {s : Seat ℕ View} → c.match-examine.seat ≡ s → Knows c.args.sizes c.args.slot c.args.found (c.loop-at.at + 1) (number c.args.name) c.args.seat.now.me.0 s.me.0 c.args.before.aside c.match-examine.on
    → Knows c.args.sizes c.args.slot c.args.found (c.loop-at.at + 1) (number c.args.name) c.args.seat.now.me.0 c.match-examine.seat.me.0 c.args.before.aside c.match-examine.on
at_seat c is k = subst (λ (q : Seat ℕ View). Knows c.args.sizes c.args.slot c.args.found (c.loop-at.at + 1) (number c.args.name) c.args.seat.now.me.0 q.me.0 c.args.before.aside c.match-examine.on) (sym is) k

pub loop-at-preserved : goal.loop-at-preserved
loop-at-preserved c =
    let v0 = c.args.seat.now.me.0 in
    let v1 = c.loop-at.seat.me.0 in
    let v2 = c.look_side-named.new.seat.me.0 in
    let v3 = c.examine.new.seat.me.0 in
    let name = number c.args.name in
    let knows : Knows c.args.sizes c.args.slot c.args.found c.loop-at.at name v0 v1 c.args.before.aside c.loop-at.on = record { stays = c.loop-at.invariant.1; looked = c.loop-at.invariant.2; shown = c.loop-at.invariant.3 } in
    let loaded : Loaded c.args.sizes c.args.slot c.args.found c.loop-at.at name v0 v2 c.args.before.aside c.if-call-found.on = elim c.if-call-found.branch [
      | then-call-found w ↦ loaded_top c.args.sizes c.args.slot c.args.found c.loop-at.at name c.look_side-named.result v0 v1 v2 c.args.before.aside c.loop-at.on c.if-call-found.on knows c.look_side-named.ensures.view.0 w.if-call-found.true w.on-is
      | else-call-found w ↦ loaded_other c.args.sizes c.args.slot c.args.found c.loop-at.at name c.look_side-named.result v0 v1 v2 c.args.before.aside c.loop-at.on c.if-call-found.on knows c.look_side-named.ensures.view.0 w.on-is
    ] in
    let k : Knows c.args.sizes c.args.slot c.args.found (c.loop-at.at + 1) name v0 c.match-examine.seat.me.0 c.args.before.aside c.match-examine.on = elim c.match-examine.branch [
      | in-Other+then-not-on+then-slot_of-slot w ↦ at_seat c w.seat-is
          (passed_other c.args.sizes c.args.slot c.args.found c.loop-at.at name w.in-Other.field-1 w.in-Other.held v0 v2 v3 c.args.before.aside c.if-call-found.on c.match-examine.on loaded w.in-Other.ensures.view.0 w.in-Other.ensures.view.1
          (ap (λ (q : Walked). q.aside) w.on-is) (ap (λ (q : Walked). q.taken) w.on-is) (λ none. absurd (true≢false (sym (ap (λ (q : Walked). q.marks) w.on-is) ∙ none))))
      | in-Other+else-not-on w ↦ at_seat c w.seat-is
          (passed_other c.args.sizes c.args.slot c.args.found c.loop-at.at name w.in-Other.field-1 w.in-Other.held v0 v2 v3 c.args.before.aside c.if-call-found.on c.match-examine.on loaded w.in-Other.ensures.view.0 w.in-Other.ensures.view.1
          (ap (λ (q : Walked). q.aside) w.on-is) (ap (λ (q : Walked). q.taken) w.on-is) (λ none. elim w.else-not-on.branch [
            | else-not-on-via-then-not-on+else-slot_of-slot o ↦ (sym (ap (λ (q : Walked). q.marks) w.on-is) ∙ none, λ here. o.if-slot_of-slot.false (o.slot_of.ensures.is ∙ here))
            | else-not-on-via-else-not-on o ↦ absurd (true≢false (sym (ap not (sym (ap (λ (q : Walked). q.marks) w.on-is) ∙ none)) ∙ o.if-not-on.false))
          ]))
      | in-Closed+then-on+then-set_aside-named w ↦ at_seat c w.seat-is
          (passed_won c.args.sizes c.args.slot c.args.found c.loop-at.at name w.in-Closed.field-0 c.look_side-named.result w.set_aside.result v0 v2 v3 w.set_aside.new.seat.me.0 c.args.before.aside c.if-call-found.on c.match-examine.on loaded w.in-Closed.ensures.view w.set_aside.ensures.view w.if-set_aside-named.true w.on-is)
      | in-Closed+then-on+else-set_aside-named w ↦ at_seat c w.seat-is
          (passed_lost c.args.sizes c.args.slot c.args.found c.loop-at.at name w.in-Closed.field-0 c.look_side-named.result w.set_aside.result v0 v2 v3 w.set_aside.new.seat.me.0 c.args.before.aside c.if-call-found.on c.match-examine.on loaded w.in-Closed.ensures.view w.set_aside.ensures.view w.if-set_aside-named.false w.if-on.true w.on-is)
      | in-Closed+else-on w ↦ at_seat c w.seat-is
          (subst (λ (q : Walked). Knows c.args.sizes c.args.slot c.args.found (c.loop-at.at + 1) name v0 v3 c.args.before.aside q) (sym w.on-is)
          (passed_closed c.args.sizes c.args.slot c.args.found c.loop-at.at name w.in-Closed.field-0 v0 v2 v3 c.args.before.aside c.if-call-found.on loaded w.in-Closed.ensures.view w.if-on.false))
    ] in
    let was : c.examine.new.seat.table_id ≡ c.args.words.now.table_id = c.examine.ensures.own ∙ (c.look_side-named.ensures.own ∙ c.loop-at.invariant.0) in
    let own : c.match-examine.seat.table_id ≡ c.args.words.now.table_id = elim c.match-examine.branch [
      | in-Other+then-not-on+then-slot_of-slot w ↦ ap (λ (q : Seat ℕ View). q.table_id) w.seat-is ∙ was
      | in-Other+else-not-on w ↦ ap (λ (q : Seat ℕ View). q.table_id) w.seat-is ∙ was
      | in-Closed+then-on+then-set_aside-named w ↦ ap (λ (q : Seat ℕ View). q.table_id) w.seat-is ∙ (w.set_aside.ensures.own ∙ was)
      | in-Closed+then-on+else-set_aside-named w ↦ ap (λ (q : Seat ℕ View). q.table_id) w.seat-is ∙ (w.set_aside.ensures.own ∙ was)
      | in-Closed+else-on w ↦ ap (λ (q : Seat ℕ View). q.table_id) w.seat-is ∙ was
    ] in
    (own, k.stays, k.looked, k.shown)
