use Rattle.std.proofs.Common.{◌≡◌, ◌∙◌, ap, subst, [], ◌∷◌, arith, refl}
use Rattle.sf_words.specs.CallWord.{call_code}
use Rattle.sf_steps_laws.specs.declared.turn.Turn.TheVariants.{Step}
use Rattle.sf_group_rows.specs.declared.sizes.Sizes.{Sizes}
use Rattle.sf_group_steps.specs.Words.{call}
use Rattle.sf_group_steps.specs.Plays.{Moves}
use Rattle.sf_group_chans.proofs.PeekSteps.{ready_state, ready_move, ready_told}
use Rattle.sf_steps_laws.specs.declared.operation.AskStep.TheVariants as ask
use Rattle.sf_group_chans.proofs.Exchanging.{exchanged_once}
use Rattle.sf_group_chans.proofs.leading.ready.Goals as goal

pub store_turns-requires-clause-moves : goal.store_turns-requires-clause-moves
store_turns-requires-clause-moves g c =
    let v = c.args.seat.now.me.0 in
    let is : c.in-Some.word ≡ ready_state c.args.askers.generation = c.in-Some.ensures.1 in
    subst (λ (z : Sizes). Moves z v (call c.args.askers.number) (λ _. c.pack_call.result) (λ _. Step c.args.askers.number ∷ [])) c.requires.sizes
    (ready_move c.args.askers c.pack_call.result c.args.seen c.args.forgot v c.requires.asks ((c.requires.askers.generation, tt), omega arith) (c.pack_call.ensures.code ∙ ap call_code is))

pub returns-clause-told : goal.returns-clause-told
returns-clause-told g c =
    let v = c.args.seat.now.me.0 in
    ready_told c.args.askers c.args.seen c.args.forgot v c.store_turns.new.seat.me.0 c.requires.asks.apart c.requires.asks (c.store_turns.ensures.told.0 c.args.askers.sizes c.requires.asks.sit.first.sizes)

pub returns-clause-exchanged : goal.returns-clause-exchanged
returns-clause-exchanged g c =
    exchanged_once c.args.askers 0 c.args.seat.now.me.0 c.store_turns.new.seat.me.0 (ask.ReadyLead c.args.seen c.args.forgot) c.requires.asks (c.store_turns.ensures.told.0 c.args.askers.sizes c.requires.asks.sit.first.sizes) refl
