use Rattle.std.proofs.Common.{subst, [], ◌∷◌, refl}
use Rattle.sf_words.specs.declared.call_word.CallState.{CallState}
use Rattle.sf_steps_laws.specs.declared.turn.Turn.TheVariants.{Step}
use Rattle.sf_group_rows.specs.declared.sizes.Sizes.{Sizes}
use Rattle.sf_group_steps.specs.Words.{call}
use Rattle.sf_group_steps.specs.Plays.{Moves}
use Rattle.sf_steps_laws.specs.declared.operation.Stage.TheVariants.{Forgetting}
use Rattle.sf_steps_laws.specs.declared.operation.ForgetStep.TheVariants as forget
use Rattle.sf_group_steps.proofs.ForgetLooks.{forgetting_alone, forget_peek_move, forget_peek_told}
use Rattle.sf_group_steps.proofs.Exchanging.{exchanged_once}
use Rattle.sf_group_steps.proofs.forgetting.forget_peek.Goals as goal

pub load_turns-found-requires-clause-moves : goal.load_turns-found-requires-clause-moves
load_turns-found-requires-clause-moves g c =
    let v = c.args.seat.now.me.0 in
    subst (λ (z : Sizes). Moves z v (call c.args.called.caller) (λ n. n) (λ _. Step c.args.actor.number ∷ [])) c.requires.sizes
    (forget_peek_move c.args.actor.sizes c.args.actor.number c.args.actor.place c.args.target c.args.called v c.requires.asks)

pub returns-clause-told : goal.returns-clause-told
returns-clause-told g c =
    let v = c.args.seat.now.me.0 in
    let found = c.load_turns-found.ensures.told.0 c.args.actor.sizes c.requires.asks.sizes in
    (forget_peek_told c.args.actor.sizes c.args.actor.number c.args.actor.place c.load_turns-found.result c.args.target c.args.called v c.load_turns-found.new.seat.me.0 c.state.result c.requires.asks found
    (λ (y : CallState) lawful code. let one = c.unpack_call.ensures.inverse y lawful.0 code in let is = c.in-Some.is in let same = c.state.ensures.same in cc)).0

pub returns-clause-shown : goal.returns-clause-shown
returns-clause-shown g c =
    let v = c.args.seat.now.me.0 in
    let found = c.load_turns-found.ensures.told.0 c.args.actor.sizes c.requires.asks.sizes in
    (forget_peek_told c.args.actor.sizes c.args.actor.number c.args.actor.place c.load_turns-found.result c.args.target c.args.called v c.load_turns-found.new.seat.me.0 c.state.result c.requires.asks found
    (λ (y : CallState) lawful code. let one = c.unpack_call.ensures.inverse y lawful.0 code in let is = c.in-Some.is in let same = c.state.ensures.same in cc)).1

pub returns-clause-other : goal.returns-clause-other
returns-clause-other g c seen opened =
    let v = c.args.seat.now.me.0 in
    let found = c.load_turns-found.ensures.told.0 c.args.actor.sizes c.requires.asks.sizes in
    (forget_peek_told c.args.actor.sizes c.args.actor.number c.args.actor.place c.load_turns-found.result c.args.target c.args.called v c.load_turns-found.new.seat.me.0 c.state.result c.requires.asks found
    (λ (y : CallState) lawful code. let one = c.unpack_call.ensures.inverse y lawful.0 code in let is = c.in-Some.is in let same = c.state.ensures.same in cc)).2 seen opened

pub returns-clause-exchanged : goal.returns-clause-exchanged
returns-clause-exchanged g c =
    exchanged_once c.args.actor.sizes c.args.actor.number 0 c.args.seat.now.me.0 c.load_turns-found.new.seat.me.0 (Forgetting c.args.actor.place c.args.target (forget.Peek c.args.called)) c.requires.asks (forgetting_alone c.args.actor.place c.args.target (forget.Peek c.args.called)) (c.load_turns-found.ensures.told.0 c.args.actor.sizes c.requires.asks.sizes).0 refl
