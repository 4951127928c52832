use Rattle.std.proofs.Common.{Option, ◌+◌, ap, sym, ◌∙◌, subst, arith}
use Rattle.atomic_table.specs.Table.{Me}
use Rattle.sf_steps_laws.specs.declared.letter.Letter.{Letter}
use Rattle.sf_group_steps.specs.declared.view.View.{View}
use Rattle.sf_group.specs.Dealing.{IsDealing}
use Rattle.sf_group_steps.proofs.Seats.{deals_split}
use Rattle.sf_group.proofs.Dealing.{deals_rest}
use Rattle.sf_group.proofs.group.deal.Goals as goal

pub split_seat-seat-requires : goal.split_seat-seat-requires
split_seat-seat-requires g c = let one = c.requires.own.1 in (
  c.requires.own.0,
  omega arith,
  deals_split g.V.Fit.fits c.args.words.now.key c.args.first.now.id c.args.first.now.me.0 c.requires.first.0.cells,
)

pub returns-clause-first : goal.returns-clause-first
returns-clause-first g c =
    let me = c.split_seat-seat.ensures.2 in (
      subst (IsDealing (c.args.number + 1) c.args.words.now.key) (sym (ap (λ (m : Me (Option (Letter _)) (View _)). m.0) me)) (deals_rest c.args.number c.args.words.now.key c.args.first.now.me.0 c.requires.number.1 c.requires.first.0),
      ap (λ (m : Me (Option (Letter _)) (View _)). m.1) me ∙ c.requires.first.1,
    )
