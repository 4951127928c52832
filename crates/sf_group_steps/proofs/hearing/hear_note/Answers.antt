use Rattle.std.proofs.Common.{◌≡◌, Option, [], ap, subst, arith}
use Rattle.atomic_table.specs.Table.{Me}
use Rattle.sf_steps_laws.specs.declared.letter.Letter.{Letter}
use Rattle.sf_group_steps.specs.declared.view.View.{View}
use Rattle.sf_group_steps.specs.View.{note_of, both_of}
use Rattle.sf_group_steps.specs.Plays.{Made}
use Rattle.sf_group_steps.proofs.Seats.{tells_split}
use Rattle.sf_group_steps.proofs.HearSteps.{has_heard}
use Rattle.sf_group_steps.proofs.hearing.hear_note.Goals as goal

pub split_seat-again-requires : goal.split_seat-again-requires
split_seat-again-requires g c = let one = c.requires.own.1 in (
  c.requires.note,
  omega arith,
  tells_split g.V.Fit.fits c.args.words.now.key c.args.note.now.id c.args.note.now.me.0,
)

pub returns-clause-heard : goal.returns-clause-heard
returns-clause-heard g c =
    let cut : c.split_seat-again.result.me.0 ≡ note_of c.args.note.now.me.0 = ap (λ (m : Me (Option (Letter _)) (View _)). m.0) c.split_seat-again.ensures.4 in
    has_heard c.args.sizes c.args.seat.now.me.0 c.args.note.now.me.0 c.take_in.new.seat.me.0 c.requires.told.0
    (subst (λ (w : View _). Made c.args.sizes (both_of c.args.seat.now.me.0 w) c.take_in.new.seat.me.0 []) cut c.take_in.ensures.took)
