use Rattle.std.proofs.Common.{subst, [], ◌∷◌, refl}
use Rattle.sf_words.specs.declared.call_word.CallState.{CallState}
use Rattle.sf_steps_laws.specs.declared.turn.Turn.TheVariants.{Step}
use Rattle.sf_group_rows.specs.declared.sizes.Sizes.{Sizes}
use Rattle.sf_group_steps.specs.Words.{call}
use Rattle.sf_group_steps.specs.Plays.{Moves}
use Rattle.sf_group_chans.proofs.PeekSteps.{peek_move, peek_is, peek_told, peek_shown, opened_apart}
use Rattle.sf_steps_laws.specs.declared.operation.AskStep.TheVariants as ask
use Rattle.sf_group_chans.proofs.Exchanging.{exchanged_once}
use Rattle.sf_group_chans.proofs.leading.peek.Goals as goal

pub load_turns-found-requires-clause-moves : goal.load_turns-found-requires-clause-moves
load_turns-found-requires-clause-moves g c =
    let v = c.args.seat.now.me.0 in
    subst (λ (z : Sizes). Moves z v (call c.args.called.caller) (λ n. n) (λ _. Step c.args.askers.number ∷ [])) c.requires.sizes (peek_move c.args.askers c.args.called v c.requires.asks)

pub returns-clause-told : goal.returns-clause-told
returns-clause-told g c =
    let v = c.args.seat.now.me.0 in
    let w = c.load_turns-found.new.seat.me.0 in
    let n = c.load_turns-found.result in
    let found = c.load_turns-found.ensures.told.0 c.args.askers.sizes c.requires.asks.sit.first.sizes in
    let is = peek_is c.args.askers n c.args.called v w c.state.result found (λ (y : CallState) lawful code. let one = c.unpack_call.ensures.inverse y lawful.0 code in let is = c.in-Some.is in let same = c.state.ensures.same in cc) in
    peek_told c.args.askers n c.args.called v w c.state.result c.requires.asks.apart c.requires.asks found is

pub returns-clause-shown : goal.returns-clause-shown
returns-clause-shown g c =
    let v = c.args.seat.now.me.0 in
    let w = c.load_turns-found.new.seat.me.0 in
    let n = c.load_turns-found.result in
    let found = c.load_turns-found.ensures.told.0 c.args.askers.sizes c.requires.asks.sit.first.sizes in
    let is = peek_is c.args.askers n c.args.called v w c.state.result found (λ (y : CallState) lawful code. let one = c.unpack_call.ensures.inverse y lawful.0 code in let is = c.in-Some.is in let same = c.state.ensures.same in cc) in
    peek_shown c.args.askers n c.args.called v w c.state.result c.requires.asks found is

pub returns-clause-other : goal.returns-clause-other
returns-clause-other g c seen opened =
    let v = c.args.seat.now.me.0 in
    let w = c.load_turns-found.new.seat.me.0 in
    let n = c.load_turns-found.result in
    let found = c.load_turns-found.ensures.told.0 c.args.askers.sizes c.requires.asks.sit.first.sizes in
    let is = peek_is c.args.askers n c.args.called v w c.state.result found (λ (y : CallState) lawful code. let one = c.unpack_call.ensures.inverse y lawful.0 code in let is = c.in-Some.is in let same = c.state.ensures.same in cc) in
    opened_apart c.args.askers c.args.called v w c.state.result seen c.requires.asks found.0 is opened

pub returns-clause-exchanged : goal.returns-clause-exchanged
returns-clause-exchanged g c =
    exchanged_once c.args.askers 0 c.args.seat.now.me.0 c.load_turns-found.new.seat.me.0 (ask.Peek c.args.called) c.requires.asks (c.load_turns-found.ensures.told.0 c.args.askers.sizes c.requires.asks.sit.first.sizes).0 refl
