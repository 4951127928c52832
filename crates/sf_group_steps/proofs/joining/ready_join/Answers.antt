use Rattle.std.proofs.Common.{◌≡◌, ◌≤◌, ◌∙◌, ap, subst, [], ◌∷◌, arith, refl, None}
use Rattle.sf_words.specs.declared.call_word.CallState.TheVariants.{Listed}
use Rattle.sf_words.specs.CallWord.{IsCallState, call_code}
use Rattle.sf_steps_laws.specs.declared.turn.Turn.TheVariants.{Step}
use Rattle.sf_group_rows.specs.declared.sizes.Sizes.{Sizes}
use Rattle.sf_group_steps.specs.Words.{call}
use Rattle.sf_group_steps.specs.Plays.{Moves}
use Rattle.sf_group_steps.proofs.EnterSteps.{ready_join_move, ready_join_told}
use Rattle.sf_steps_laws.specs.declared.operation.Stage.TheVariants.{Asking}
use Rattle.sf_steps_laws.specs.declared.operation.AskStep.TheVariants as ask
use Rattle.sf_group_steps.proofs.LookSteps.{asking_alone}
use Rattle.sf_group_steps.proofs.Exchanging.{exchanged_once}
use Rattle.sf_group_steps.proofs.joining.ready_join.Goals as goal
use Rattle.sf_words.specs.declared.limits.TheConstants.{LARGEST_GENERATION}

pub store_turns-requires-clause-moves : goal.store_turns-requires-clause-moves
store_turns-requires-clause-moves g c =
    let v = c.args.seat.now.me.0 in
    let low = c.requires.generation.0 in
    let high : c.args.generation ≤ LARGEST_GENERATION = let fits = c.ranges.generation.fits in omega arith in
    let lawful : IsCallState (Listed c.args.generation) = (low, high) in
    let is : c.in-Some.word ≡ Listed c.args.generation = c.in-Some.ensures.1 in
    subst (λ (z : Sizes). Moves z v (call c.args.actor.number) (λ _. c.pack_call.result) (λ _. Step c.args.actor.number ∷ [])) c.requires.sizes
    (ready_join_move c.args.actor.sizes c.args.actor.number c.args.actor.place c.args.generation c.pack_call.result c.args.called c.args.seen v c.requires.asks c.requires.generation.1 (lawful, omega arith) (c.pack_call.ensures.code ∙ ap call_code is))

pub returns-clause-told : goal.returns-clause-told
returns-clause-told g c =
    let v = c.args.seat.now.me.0 in
    ready_join_told c.args.actor.sizes c.args.actor.number c.args.actor.place c.args.called c.args.seen v c.store_turns.new.seat.me.0 c.requires.asks (c.store_turns.ensures.told.0 c.args.actor.sizes c.requires.asks.sizes)

pub returns-clause-exchanged : goal.returns-clause-exchanged
returns-clause-exchanged g c =
    exchanged_once c.args.actor.sizes c.args.actor.number 0 c.args.seat.now.me.0 c.store_turns.new.seat.me.0 (Asking c.args.actor.place None (ask.ReadyJoin c.args.called c.args.seen)) c.requires.asks (asking_alone c.args.actor.place None (ask.ReadyJoin c.args.called c.args.seen)) (c.store_turns.ensures.told.0 c.args.actor.sizes c.requires.asks.sizes) refl
