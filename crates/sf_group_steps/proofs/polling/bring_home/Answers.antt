use Rattle.std.proofs.Common.{subst, []}
use Rattle.sf_group_rows.specs.declared.sizes.Sizes.{Sizes}
use Rattle.sf_group_steps.specs.Words.{call}
use Rattle.sf_group_steps.specs.Cells.{give_one}
use Rattle.sf_group_steps.specs.Plays.{MovesCell}
use Rattle.sf_group_steps.proofs.CollectSteps.{home_move, home_told}
use Rattle.sf_group_steps.proofs.polling.bring_home.Goals as goal

pub load_cell-requires-clause-moves : goal.load_cell-requires-clause-moves
load_cell-requires-clause-moves g c =
    let r = c.args.actor in
    subst (λ (z : Sizes). MovesCell g.V.Fit.fits z c.args.seat.now.me (call r.number) (λ n. n) (λ _. []) (λ _. give_one r.number)) c.requires.sizes
    (home_move g.V.Fit.fits r.sizes r.number c.args.seat.now.me c.requires.free c.requires.empty)

pub returns-clause-own : goal.returns-clause-own
returns-clause-own g c = let told = c.load_cell.ensures.told c.args.actor.sizes c.requires.free.sizes in (c.load_cell.ensures.own, told.carries)

pub returns-clause-told : goal.returns-clause-told
returns-clause-told g c = let told = c.load_cell.ensures.told c.args.actor.sizes c.requires.free.sizes in home_told c.args.actor.sizes c.args.actor.number c.args.seat.now.me.0 c.load_cell.new.seat.me.0 c.requires.free told.made
