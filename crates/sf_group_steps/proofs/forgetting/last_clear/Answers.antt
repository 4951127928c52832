use Rattle.std.proofs.Common.{◌≡◌, ◌==◌, ◌∙◌, ap, subst, [], ◌∷◌, refl}
use prog.Atomic.{either}
use Rattle.sf_group_rows.specs.declared.sizes.Sizes.{Sizes}
use Rattle.sf_group_steps.specs.Plays.{Moves}
use Rattle.sf_words.specs.KeyWord.{key_code}
use Rattle.sf_steps_laws.specs.World.{key_of, cleared_key_of}
use Rattle.sf_steps_laws.specs.declared.turn.Turn.TheVariants.{Step}
use Rattle.sf_group_steps.specs.Words.{key}
use Rattle.sf_group_steps.proofs.ForgetClears.{last_clear_move, last_clear_told}
use Rattle.sf_steps_laws.specs.declared.operation.Stage.TheVariants.{Forgetting}
use Rattle.sf_steps_laws.specs.declared.operation.ForgetStep.TheVariants as forget
use Rattle.sf_group_steps.proofs.ForgetLooks.{forgetting_alone}
use Rattle.sf_group_steps.proofs.Exchanging.{exchanged_once}
use Rattle.sf_group_steps.proofs.forgetting.last_clear.Goals as goal

pub exchange_turns-requires-clause-moves : goal.exchange_turns-requires-clause-moves
exchange_turns-requires-clause-moves g c =
    let v = c.args.seat.now.me.0 in
    let old_is : c.in-Some.old ≡ key_of c.args.called = c.in-Some.ensures.1 in
    let new_is : c.in-Some-new.new ≡ cleared_key_of c.args.called = c.in-Some-new.ensures.1 in
    subst (λ (z : Sizes). Moves z v (key c.args.actor.place) (λ n. either (n == c.pack_key.result) c.pack_key-2.result n) (λ _. Step c.args.actor.number ∷ [])) c.requires.sizes
    (last_clear_move c.args.actor.sizes c.args.actor.number c.args.actor.place c.pack_key.result c.pack_key-2.result c.args.target c.args.called v c.requires.asks c.requires.called
    (c.pack_key.ensures.code ∙ ap key_code old_is) (c.pack_key-2.ensures.code ∙ ap key_code new_is))

pub returns-clause-told : goal.returns-clause-told
returns-clause-told g c =
    let v = c.args.seat.now.me.0 in
    last_clear_told c.args.actor.sizes c.args.actor.number c.args.actor.place c.exchange_turns.result c.args.target c.args.called v c.exchange_turns.new.seat.me.0 c.requires.asks (c.exchange_turns.ensures.told.0 c.args.actor.sizes c.requires.asks.sizes)

pub returns-clause-exchanged : goal.returns-clause-exchanged
returns-clause-exchanged g c =
    exchanged_once c.args.actor.sizes c.args.actor.number 0 c.args.seat.now.me.0 c.exchange_turns.new.seat.me.0 (Forgetting c.args.actor.place c.args.target (forget.LastClear c.args.called)) c.requires.asks (forgetting_alone c.args.actor.place c.args.target (forget.LastClear c.args.called)) (c.exchange_turns.ensures.told.0 c.args.actor.sizes c.requires.asks.sizes).0 refl
