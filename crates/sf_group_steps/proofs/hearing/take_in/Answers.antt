use Rattle.std.proofs.Common.{◌≡◌, Option, [], ap, ◌∙◌, subst, arith}
use Rattle.atomic_table.specs.Table.{Me}
use Rattle.sf_steps_laws.specs.declared.letter.Letter.{Letter}
use Rattle.sf_group_steps.specs.declared.view.View.{View}
use Rattle.sf_group_steps.specs.Words.{call}
use Rattle.sf_group_steps.specs.View.{both_of}
use Rattle.sf_group_steps.specs.Plays.{Made}
use Rattle.sf_group_steps.proofs.Seats.{tells_join}
use Rattle.sf_group_steps.proofs.HearSteps.{still_move}
use Rattle.sf_group_steps.proofs.hearing.take_in.Goals as goal

pub join_seat-requires : goal.join_seat-requires
join_seat-requires g c = let one = c.requires.own.1 in (
  c.requires.own.0,
  c.requires.other.0,
  c.requires.other.1,
  omega arith,
  tells_join g.V.Fit.fits c.args.words.now.key c.args.seat.now.id c.args.other.id c.args.seat.now.me.0 c.args.other.me.0 c.requires.cells.1,
)

pub load_turns-requires-clause-moves : goal.load_turns-requires-clause-moves
load_turns-requires-clause-moves g c =
    let joined : c.join_seat.new.seat.me.0 ≡ both_of c.args.seat.now.me.0 c.args.other.me.0 = ap (λ (m : Me (Option (Letter _)) (View _)). m.0) c.join_seat.ensures.2 in
    still_move c.args.words.now.key c.join_seat.new.seat.me.0 (call c.args.number) (ap (λ (v : View _). v.cells) joined ∙ c.requires.cells.0)

pub returns-clause-took : goal.returns-clause-took
returns-clause-took g c =
    let joined : c.join_seat.new.seat.me.0 ≡ both_of c.args.seat.now.me.0 c.args.other.me.0 = ap (λ (m : Me (Option (Letter _)) (View _)). m.0) c.join_seat.ensures.2 in
    subst (λ (v : View _). Made c.args.sizes v c.load_turns.new.seat.me.0 []) joined
    (c.load_turns.ensures.told.0 c.args.sizes (ap (λ (v : View _). v.sizes) joined ∙ c.requires.sizes.1)).0
