use Rattle.std.proofs.Common.{ℕ, ◌<◌, sym, subst}
use Rattle.atomic_table.specs.Table.{Allows}
use Rattle.sf_group_steps.specs.Words.{words_in}
use Rattle.sf_group_steps.specs.Shows.{Holds}
use Rattle.sf_group_steps.specs.Plays.{ToldHandledStore}
use Rattle.sf_group_steps.proofs.Keeps.{word_room, handled_store_allows}
use Rattle.sf_group_steps.proofs.steps.store_cell.Goals as goal

pub store-requires : goal.store-requires
store-requires g c =
    let z = c.args.words.now.key in
    let x = g.J.CellPlan.word in
    let me = c.args.seat.now.me in (
      c.requires.own.0,
      subst (λ (n : ℕ). c.args.word < n) (sym c.requires.own.1) (subst (λ (n : ℕ). n < words_in z) (sym c.requires.word.1) (word_room z x c.requires.word.0)),
      subst (λ (i : ℕ). Allows (Holds g.V.Fit.fits z) c.args.words.now.table_id.slots c.args.seat.now.id me i (λ _. c.args.new) (λ n w. ToldHandledStore g.V.Fit.fits (g.J.CellPlan.turns c.args.new) (g.J.CellPlan.handle c.args.new) me w)) (sym c.requires.word.1)
          (handled_store_allows g.V.Fit.fits g.V.Fit.lasts z c.args.words.now.table_id.slots c.args.seat.now.id me x c.args.new (g.J.CellPlan.turns c.args.new) (g.J.CellPlan.handle c.args.new) c.requires.own.2 c.requires.word.0 c.requires.moves),
    )
