use Rattle.std.proofs.Common.{Option, ap, sym, ◌∙◌, arith}
use Rattle.atomic_table.specs.Seated.{TableId}
use Rattle.atomic_table.specs.Table.{Me}
use Rattle.sf_steps_laws.specs.declared.letter.Letter.{Letter}
use Rattle.sf_group_rows.specs.Tokens.{GroupValue, SettledValue}
use Rattle.sf_group_steps.specs.declared.view.View.{View}
use Rattle.sf_group_steps.specs.View.{sizes_of, history_of}
use Rattle.sf_group_steps.proofs.Seats.{tells_split}
use Rattle.sf_group.specs.Known.{call_before, group_of, settled_of}
use Rattle.sf_group.proofs.tokens.settled.Settled.tell.Goals as goal

pub split_seat-seat-requires : goal.split_seat-seat-requires
split_seat-seat-requires g c = let one = c.group.invariant.1 in (
  ap (λ (x : SettledValue _). x.group.table) c.self.view_is ∙ ap (λ (x : GroupValue). x.table) (c.requires ∙ sym c.group.view_is),
  omega arith,
  tells_split g.V.Fit.fits c.group.inside.table.shared.key c.self.inside.leader.seated.seat.id c.self.inside.leader.seated.seat.me.0,
)

pub returns-clause-same : goal.returns-clause-same
returns-clause-same g c =
    let s = c.self.inside in
    let led = s.leader in
    let who = led.seated in
    let call = call_before who.number who.next in
    let done = c.split_seat-seat.ensures in
    ap (λ (x : TableId). settled_of x c.split_seat-seat.new.seat.me.0 who.number led.place call s.value s.joiners) done.0
    ∙ (ap (λ (m : Me (Option (Letter _)) (View _)). settled_of who.seat.table_id m.0 who.number led.place call s.value s.joiners) done.2 ∙ c.self.view_is)

pub returns-clause-told : goal.returns-clause-told
returns-clause-told g c =
    let s = c.self.inside in
    let led = s.leader in
    let who = led.seated in
    let done = c.split_seat-seat.ensures in (
      ap (λ (x : TableId). group_of x c.split_seat-seat.result.me.0) done.3
          ∙ (ap (λ (m : Me (Option (Letter _)) (View _)). group_of who.seat.table_id m.0) done.4 ∙ ap (λ (x : SettledValue _). x.group) c.self.view_is),
      ap (λ (m : Me (Option (Letter _)) (View _)). history_of (sizes_of m.0) m.0.known.turns) done.4 ∙ ap (λ (x : SettledValue _). x.seen) c.self.view_is,
    )
