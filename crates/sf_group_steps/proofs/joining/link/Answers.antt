use Rattle.std.proofs.Common.{◌≡◌, ◌∙◌, ap, subst, [], ◌∷◌, refl, None}
use Rattle.sf_words.specs.NextWord.{next_code}
use Rattle.sf_steps_laws.specs.declared.turn.Turn.TheVariants.{Step}
use Rattle.sf_group_rows.specs.declared.sizes.Sizes.{Sizes}
use Rattle.sf_group_steps.specs.Words.{next}
use Rattle.sf_group_steps.specs.Plays.{Moves}
use Rattle.sf_group_steps.proofs.EnterSteps.{link_move, link_told}
use Rattle.sf_steps_laws.specs.declared.operation.Stage.TheVariants.{Asking}
use Rattle.sf_steps_laws.specs.declared.operation.AskStep.TheVariants as ask
use Rattle.sf_group_steps.proofs.LookSteps.{asking_alone}
use Rattle.sf_group_steps.proofs.Exchanging.{exchanged_once}
use Rattle.sf_group_steps.proofs.joining.link.Goals as goal

pub store_turns-requires-clause-moves : goal.store_turns-requires-clause-moves
store_turns-requires-clause-moves g c =
    let v = c.args.seat.now.me.0 in
    let is : c.in-Some.word ≡ c.args.seen.top = c.in-Some.ensures.1 in
    subst (λ (z : Sizes). Moves z v (next c.args.actor.number) (λ _. c.pack_next.result) (λ _. Step c.args.actor.number ∷ [])) c.requires.sizes
    (link_move c.args.actor.sizes c.args.actor.number c.args.actor.place c.pack_next.result c.args.called c.args.seen v c.requires.asks (c.requires.seen.0.1, c.requires.seen.1) (c.pack_next.ensures.code ∙ ap next_code is))

pub returns-clause-told : goal.returns-clause-told
returns-clause-told g c =
    let v = c.args.seat.now.me.0 in
    link_told c.args.actor.sizes c.args.actor.number c.args.actor.place c.args.called c.args.seen v c.store_turns.new.seat.me.0 c.requires.asks (c.store_turns.ensures.told.0 c.args.actor.sizes c.requires.asks.sizes)

pub returns-clause-exchanged : goal.returns-clause-exchanged
returns-clause-exchanged g c =
    exchanged_once c.args.actor.sizes c.args.actor.number 0 c.args.seat.now.me.0 c.store_turns.new.seat.me.0 (Asking c.args.actor.place None (ask.Link c.args.called c.args.seen)) c.requires.asks (asking_alone c.args.actor.place None (ask.Link c.args.called c.args.seen)) (c.store_turns.ensures.told.0 c.args.actor.sizes c.requires.asks.sizes) refl
