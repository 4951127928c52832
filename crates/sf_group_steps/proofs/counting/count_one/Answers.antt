use Rattle.std.proofs.Common.{ℕ, Option, subst, [], ◌∷◌}
use Rattle.sf_steps_laws.specs.declared.turn.Turn.TheVariants.{Step}
use Rattle.sf_group_rows.specs.declared.sizes.Sizes.{Sizes}
use Rattle.sf_group_steps.specs.Words.{next}
use Rattle.sf_group_steps.specs.Plays.{Moves}
use Rattle.sf_group_steps.proofs.CountSteps.{count_move, count_told}
use Rattle.sf_group_steps.proofs.counting.count_one.Goals as goal

pub load_turns-found-requires-clause-moves : goal.load_turns-found-requires-clause-moves
load_turns-found-requires-clause-moves g c =
    let v = c.args.seat.now.me.0 in
    let r = c.args.actor in
    subst (λ (z : Sizes). Moves z v (next c.args.member) (λ n. n) (λ _. Step r.number ∷ [])) c.requires.sizes
    (count_move r.sizes r.number r.place c.args.generation c.args.joiners c.args.member c.args.top c.args.own c.args.value.now v c.requires.settles)

pub returns-clause-told : goal.returns-clause-told
returns-clause-told g c =
    let v = c.args.seat.now.me.0 in
    let r = c.args.actor in
    count_told r.sizes r.number r.place c.args.generation c.args.joiners c.args.member c.args.top c.load_turns-found.result c.args.own c.args.value.now c.next.result v c.load_turns-found.new.seat.me.0 c.requires.room c.requires.settles
    (c.load_turns-found.ensures.told.0 r.sizes c.requires.settles.sizes) (λ (y : Option ℕ) lawful code. let one = c.unpack_next.ensures.inverse y lawful.0 code in let is = c.in-Some.is in let same = c.next.ensures.same in cc)
