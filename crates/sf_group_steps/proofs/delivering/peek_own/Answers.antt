use Rattle.std.proofs.Common.{Option, Some, subst, sym, ◌∙◌, [], ◌∷◌}
use Rattle.sf_history.specs.declared.call.CallId.{CallId}
use Rattle.sf_steps_laws.specs.declared.turn.Turn.TheVariants.{Step}
use Rattle.sf_steps_laws.specs.declared.operation.Stage.TheVariants.{Settling}
use Rattle.sf_steps_laws.specs.declared.operation.SettleStep.TheVariants as settle
use Rattle.sf_words.specs.CallWord.{IsCallState}
use Rattle.sf_words.specs.declared.call_word.CallState.{CallState}
use Rattle.sf_group_rows.specs.declared.sizes.Sizes.{Sizes}
use Rattle.sf_group_steps.specs.Words.{call}
use Rattle.sf_group_steps.specs.Cells.{take_one}
use Rattle.sf_group_steps.specs.Plays.{MovesCell}
use Rattle.sf_group_steps.specs.Settles.{call_of}
use Rattle.sf_group_steps.specs.Stands.{Sits, GoesWith}
use Rattle.sf_group_steps.proofs.HandSteps.{own_step, own_move, own_told, taken_out}
use Rattle.sf_group_steps.proofs.delivering.peek_own.Goals as goal

pub load_cell-found-requires-clause-moves : goal.load_cell-found-requires-clause-moves
load_cell-found-requires-clause-moves g c =
    let r = c.args.actor in
    let d = c.args.delivery in
    let settles = subst (λ (o : Option CallId). Sits r.sizes r.number c.args.seat.now.me.0 (Settling r.place d.generation o c.args.value.now (settle.PeekOwn d.joiners))) c.requires.channel c.requires.settles in
    subst (λ (z : Sizes). MovesCell g.V.Fit.fits z c.args.seat.now.me (call c.args.channel.caller) (λ n. n) (λ _. Step r.number ∷ []) (λ _. take_one c.args.channel.caller)) c.requires.sizes
    (own_move g.V.Fit.fits r.sizes r.number r.place d.generation c.args.channel c.args.value.now d.joiners c.args.seat.now.me settles c.requires.member)

pub unreachable-requires : goal.unreachable-requires
unreachable-requires g c =
    let found = c.load_cell-found.ensures.told c.args.actor.sizes c.requires.settles.sizes in
    let lawful = found.made.comes.lawful.calls c.args.channel.caller in
    let one = c.unpack_call.ensures.inverse _ lawful.0 (sym found.found) in
    c.in_default.not-Some _ one

pub unreachable-requires-in_default-state : goal.unreachable-requires-in_default-state
unreachable-requires-in_default-state g c =
    let r = c.args.actor in
    let d = c.args.delivery in
    let settles = subst (λ (o : Option CallId). Sits r.sizes r.number c.args.seat.now.me.0 (Settling r.place d.generation o c.args.value.now (settle.PeekOwn d.joiners))) c.requires.channel c.requires.settles in
    let found = c.load_cell-found.ensures.told r.sizes c.requires.settles.sizes in
    let both = own_told g.V.Fit.fits r.sizes r.number r.place d.generation c.load_cell-found.result c.args.channel c.args.value.now d.joiners c.state.result c.args.seat.now.me c.load_cell-found.new.seat.me settles found
    (λ (y : CallState) lawful code. let one = c.unpack_call.ensures.inverse y lawful.0 code in let is = c.in-Some.is in let same = c.state.ensures.same in cc) in
    c.in_default-state.not-Listed both.1.0 both.1.1

pub returns-clause-own : goal.returns-clause-own
returns-clause-own g c =
    let found = c.load_cell-found.ensures.told c.args.actor.sizes c.requires.settles.sizes in
    (c.load_cell-found.ensures.own, taken_out g.V.Fit.fits c.args.actor.sizes c.args.channel.caller c.load_cell-found.result (call c.args.channel.caller) (λ _. Step c.args.actor.number ∷ []) c.args.seat.now.me c.load_cell-found.new.seat.me found c.requires.none)

pub returns-clause-told : goal.returns-clause-told
returns-clause-told g c =
    let r = c.args.actor in
    let d = c.args.delivery in
    let settles = subst (λ (o : Option CallId). Sits r.sizes r.number c.args.seat.now.me.0 (Settling r.place d.generation o c.args.value.now (settle.PeekOwn d.joiners))) c.requires.channel c.requires.settles in
    let found = c.load_cell-found.ensures.told r.sizes c.requires.settles.sizes in
    let both = own_told g.V.Fit.fits r.sizes r.number r.place d.generation c.load_cell-found.result c.args.channel c.args.value.now d.joiners c.state.result c.args.seat.now.me c.load_cell-found.new.seat.me settles found
    (λ (y : CallState) lawful code. let one = c.unpack_call.ensures.inverse y lawful.0 code in let is = c.in-Some.is in let same = c.state.ensures.same in cc) in
    subst (λ (o : Option CallId). GoesWith r.sizes r.number c.args.seat.now.me.0 c.load_cell-found.new.seat.me.0 (Settling r.place d.generation o c.args.value.now (settle.DeliverOwn d.joiners (call_of c.args.channel.caller c.in-Listed.generation))) [] 0 (c.args.channel.caller ∷ [])) (sym c.requires.channel)
    (subst (λ (q : CallState). GoesWith r.sizes r.number c.args.seat.now.me.0 c.load_cell-found.new.seat.me.0 (Settling r.place d.generation (Some c.args.channel) c.args.value.now (own_step d.joiners c.args.channel.caller q)) [] 0 (c.args.channel.caller ∷ [])) c.in-Listed.is both.0)

pub returns-clause-generation : goal.returns-clause-generation
returns-clause-generation g c = let is = c.in-Listed.is in let range = c.state.ensures.range in let same = c.state.ensures.same in subst IsCallState (sym same ∙ is) range
