use Rattle.std.proofs.Common.{◌≡◌, ℕ, Option, Some, ap, subst, sym, ◌∙◌, List, [], ◌∷◌}
use Rattle.atomic_table.specs.Table.{Me, rest}
use Rattle.sf_steps_laws.specs.declared.letter.Letter.{Letter}
use Rattle.sf_steps_laws.specs.declared.operation.SettleStep.TheVariants as settle
use Rattle.sf_steps_laws.specs.declared.turn.Turn.TheVariants.{Step}
use Rattle.sf_steps_laws.specs.Turns.{at_members}
use Rattle.sf_steps_laws.specs.Events.{handed}
use Rattle.sf_steps_laws.specs.Waiting.{IsListed}
use Rattle.sf_words.specs.declared.call_word.CallState.{CallState}
use Rattle.sf_words.specs.CallWord.{call_code}
use Rattle.sf_group_rows.specs.declared.sizes.Sizes.{Sizes}
use Rattle.sf_group_steps.specs.declared.view.View.{View}
use Rattle.sf_group_steps.specs.Words.{call}
use Rattle.sf_group_steps.specs.View.{world_of, history_of}
use Rattle.sf_group_steps.specs.Cells.{give_one}
use Rattle.sf_group_steps.specs.Plays.{MovesCell}
use Rattle.sf_group_steps.specs.Settles.{call_of}
use Rattle.sf_group_steps.specs.Stands.{SitsWith, Goes}
use Rattle.sf_group_steps.specs.Delivers.{at_step}
use Rattle.sf_group_steps.proofs.HandSteps.{deliver_move, deliver_told, deliver_lists}
use Rattle.sf_group_steps.proofs.delivering.deliver.Goals as goal

pub store_cell-requires-clause-moves : goal.store_cell-requires-clause-moves
store_cell-requires-clause-moves g c =
    let r = c.args.actor in
    let d = c.args.delivery in
    let x = c.args.letter.value in
    let v = c.exchange.new.seat.me.0 in
    let same : v ≡ c.args.seat.now.me.0 = ap (λ (m : Me (Option (Letter _)) (View _)). m.0) c.exchange.ensures.3 in
    let sits = subst (λ (w : View _). SitsWith r.sizes r.number w (at_step r d x (settle.Deliver d.joiners c.args.member c.args.next)) (c.args.member.caller ∷ [])) (sym same) c.requires.settles in
    let after : c.exchange.new.seat.me.1 ≡ (c.args.member.caller, Some c.args.letter) ∷ rest c.args.seat.now.me.1 = ap (λ (m : Me (Option (Letter _)) (View _)). m.1) c.exchange.ensures.3 in
    let alone : rest c.args.seat.now.me.1 ≡ [] = ap (λ (l : List (ℕ × Option (Letter _))). rest l) c.requires.out.1 in
    let carried = after ∙ (ap (λ (l : List (ℕ × Option (Letter _))). (c.args.member.caller, Some c.args.letter) ∷ l) alone ∙ ap (λ (y : Letter _). (c.args.member.caller, Some y) ∷ []) c.requires.letter) in
    let code = c.pack_call.ensures.code ∙ ap (λ (y : CallState). call_code y) c.in-Some.ensures.1 in
    let fit = subst (λ (w : View _). g.V.Fit.fits r.place (call_of r.number d.generation) x (history_of r.sizes w.known.turns)) (sym same) c.requires.fits in
    subst (λ (z : Sizes). MovesCell g.V.Fit.fits z c.exchange.new.seat.me (call c.args.member.caller) (λ _. c.pack_call.result) (λ _. Step r.number ∷ []) (λ _. give_one c.args.member.caller)) c.requires.sizes
    (deliver_move g.V.Fit.fits g.V.Fit.lasts r.sizes r.number r.place d.generation c.pack_call.result d.own x d.joiners c.args.member c.args.next c.exchange.new.seat.me sits carried c.requires.member.1 code fit)

pub returns-clause-own : goal.returns-clause-own
returns-clause-own g c =
    let same : c.exchange.new.seat.me.0 ≡ c.args.seat.now.me.0 = ap (λ (m : Me (Option (Letter _)) (View _)). m.0) c.exchange.ensures.3 in
    let told = c.store_cell.ensures.told c.args.actor.sizes (ap (λ (w : View _). w.sizes) same ∙ c.requires.settles.sizes) in
    (c.store_cell.ensures.own ∙ c.exchange.ensures.0, told.1)

pub returns-clause-told : goal.returns-clause-told
returns-clause-told g c =
    let r = c.args.actor in
    let d = c.args.delivery in
    let x = c.args.letter.value in
    let v = c.exchange.new.seat.me.0 in
    let same : v ≡ c.args.seat.now.me.0 = ap (λ (m : Me (Option (Letter _)) (View _)). m.0) c.exchange.ensures.3 in
    let sits = subst (λ (w : View _). SitsWith r.sizes r.number w (at_step r d x (settle.Deliver d.joiners c.args.member c.args.next)) (c.args.member.caller ∷ [])) (sym same) c.requires.settles in
    let made = (c.store_cell.ensures.told r.sizes sits.sizes).0 in
    subst (λ (w : View _). Goes r.sizes r.number w c.store_cell.new.seat.me.0 (at_members r.place d.generation d.own x d.joiners c.args.next) (handed r.number (call_of r.number d.generation) d.own c.args.next) 0) same
    (deliver_told r.sizes r.number r.place d.generation d.own x d.joiners c.args.member c.args.next v c.store_cell.new.seat.me.0 (c.args.member.caller ∷ []) sits made)

pub returns-clause-lists : goal.returns-clause-lists
returns-clause-lists g c = λ n l is.
    let r = c.args.actor in
    let d = c.args.delivery in
    let x = c.args.letter.value in
    let v = c.exchange.new.seat.me.0 in
    let same : v ≡ c.args.seat.now.me.0 = ap (λ (m : Me (Option (Letter _)) (View _)). m.0) c.exchange.ensures.3 in
    let sits = subst (λ (w : View _). SitsWith r.sizes r.number w (at_step r d x (settle.Deliver d.joiners c.args.member c.args.next)) (c.args.member.caller ∷ [])) (sym same) c.requires.settles in
    let made = (c.store_cell.ensures.told r.sizes sits.sizes).0 in
    deliver_lists r.sizes r.number r.place d.generation d.own x d.joiners c.args.member c.args.next v c.store_cell.new.seat.me.0 (c.args.member.caller ∷ []) sits made n l
    (subst (λ (w : View _). IsListed (world_of r.sizes w.known.turns) r.place (call_of r.number d.generation) (Some c.args.member.caller) (n ∷ l)) (sym same) is)
