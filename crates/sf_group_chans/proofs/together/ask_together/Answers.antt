use Rattle.std.proofs.Common.{Option, ap, ◌∙◌, arith}
use Rattle.atomic_table.specs.Table.{Me}
use Rattle.sf_steps_laws.specs.declared.letter.Letter.{Letter}
use Rattle.sf_group_steps.specs.declared.view.View.{View}
use Rattle.sf_group_steps.proofs.Seats.{deals_split}
use Rattle.sf_group_chans.proofs.Meeting.{meets, whole, asked, asked_so}
use Rattle.sf_group_chans.proofs.together.ask_together.Goals as goal

pub ask_both-attempt-requires-clause-free : goal.ask_both-attempt-requires-clause-free
ask_both-attempt-requires-clause-free g c = (meets c.args.askers c.args.seat.me.0 c.args.second.me.0 c.take_in.new.seat.me.0 c.requires.free.0 c.requires.free.1 c.requires.second_free.0 c.requires.second_free.1 c.take_in.ensures.took).asks

pub split_seat-first-requires : goal.split_seat-first-requires
split_seat-first-requires g c = let one = c.requires.own.0.1 in (
  c.ask_both-attempt.ensures.own.0 ∙ (c.take_in.ensures.own.0 ∙ c.requires.own.0.0),
  omega arith,
  deals_split g.V.Fit.fits c.args.words.now.key c.ask_both-attempt.new.seat.id c.ask_both-attempt.new.seat.me.0 (whole c.args.askers c.args.tries c.take_in.new.seat.me.0 c.ask_both-attempt.new.seat.me.0 c.ask_both-attempt.result c.ask_both-attempt.ensures.tried).cells,
)

pub returns-clause-asked : goal.returns-clause-asked
returns-clause-asked g c =
    let met = meets c.args.askers c.args.seat.me.0 c.args.second.me.0 c.take_in.new.seat.me.0 c.requires.free.0 c.requires.free.1 c.requires.second_free.0 c.requires.second_free.1 c.take_in.ensures.took in
    asked c.args.askers c.args.tries c.args.seat.me.0 c.args.second.me.0 c.take_in.new.seat.me.0 c.ask_both-attempt.new.seat.me.0 c.split_seat-first.result.me.0 c.split_seat-first.new.seat.me.0 c.ask_both-attempt.result met c.ask_both-attempt.ensures.tried
    (ap (λ (m : Me (Option (Letter _)) (View _)). m.0) c.split_seat-first.ensures.4) (ap (λ (m : Me (Option (Letter _)) (View _)). m.0) c.split_seat-first.ensures.2)

pub returns-clause-exchanged : goal.returns-clause-exchanged
returns-clause-exchanged g c =
    let met = meets c.args.askers c.args.seat.me.0 c.args.second.me.0 c.take_in.new.seat.me.0 c.requires.free.0 c.requires.free.1 c.requires.second_free.0 c.requires.second_free.1 c.take_in.ensures.took in
    asked_so c.args.askers c.args.tries c.args.seat.me.0 c.args.second.me.0 c.take_in.new.seat.me.0 c.ask_both-attempt.new.seat.me.0 c.split_seat-first.result.me.0 c.split_seat-first.new.seat.me.0 c.ask_both-attempt.result met c.ask_both-attempt.ensures.exchanged
    (ap (λ (m : Me (Option (Letter _)) (View _)). m.0) c.split_seat-first.ensures.4) (ap (λ (m : Me (Option (Letter _)) (View _)). m.0) c.split_seat-first.ensures.2)
