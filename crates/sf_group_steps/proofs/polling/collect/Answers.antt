use Rattle.std.proofs.Common.{◌≡◌, ◌∙◌, ℕ, sym, ap, subst, List, [], ◌∷◌, Option, Some}
use Rattle.atomic_table.specs.Table.{Me, rest}
use Rattle.sf_steps_laws.specs.declared.letter.Letter.{Letter}
use Rattle.sf_steps_laws.specs.declared.operation.Stage.TheVariants.{Free}
use Rattle.sf_group_steps.specs.declared.view.View.{View}
use Rattle.sf_group_steps.specs.View.{history_of}
use Rattle.sf_group_steps.specs.Stands.{Goes}
use Rattle.sf_group_steps.specs.Collects.{IsAnswer}
use Rattle.sf_group_steps.proofs.Handing.{goes_hand_own}
use Rattle.sf_group_steps.proofs.CollectSteps.{read_letter, answer_later}
use Rattle.sf_group_steps.proofs.polling.collect.Goals as goal

pub exchange-requires : goal.exchange-requires
exchange-requires g c =
    let found = c.look_in.ensures.found c.if-not-look_in.false in
    let alone : rest c.look_in.new.seat.me.1 ≡ [] = ap (λ (l : List (ℕ × Option (Letter _))). rest l) found.1 in
    (c.look_in.ensures.own ∙ c.requires.own.0, (Some found.0, found.1 ∙ ap (λ (l : List (ℕ × Option (Letter _))). (c.args.actor.number, Some found.0) ∷ l) (sym alone)))

pub returns-clause-ready : goal.returns-clause-ready
returns-clause-ready g c =
    let r = c.args.actor in
    let same : c.exchange.new.seat.me.0 ≡ c.look_in.new.seat.me.0 = ap (λ (m : Me (Option (Letter _)) (View _)). m.0) c.exchange.ensures.3 in
    let back = subst (λ (w : View _). Goes r.sizes r.number w c.bring_home.new.seat.me.0 Free [] 0) same c.bring_home.ensures.told in
    goes_hand_own r.sizes r.number c.args.seat.now.me.0 c.look_in.new.seat.me.0 c.bring_home.new.seat.me.0 Free Free [] (r.number ∷ []) (c.look_in.ensures.full c.if-not-look_in.false) back

pub returns-clause-answer : goal.returns-clause-answer
returns-clause-answer g c =
    let r = c.args.actor in
    let found = c.look_in.ensures.found c.if-not-look_in.false in
    let same : c.exchange.new.seat.me.0 ≡ c.look_in.new.seat.me.0 = ap (λ (m : Me (Option (Letter _)) (View _)). m.0) c.exchange.ensures.3 in
    let back = subst (λ (w : View _). Goes r.sizes r.number w c.bring_home.new.seat.me.0 Free [] 0) same c.bring_home.ensures.told in
    let one = read_letter r.number (found.0) c.in-Some.letter c.exchange.result c.look_in.new.seat.me.1 found.1 c.exchange.ensures.2 c.in-Some.is in
    subst (λ (l : Letter _). IsAnswer g.V.Fit.fits r.place c.args.called (history_of r.sizes c.bring_home.new.seat.me.0.known.turns) l) one
    (answer_later g.V.Fit.fits g.V.Fit.lasts r.sizes r.number r.place 0 c.args.called (found.0) c.look_in.new.seat.me.0 c.bring_home.new.seat.me.0 Free [] [] found.2 back)
