use Rattle.std.proofs.Common.{◌≡◌, ◌==◌, ◌∙◌, ap, sym, subst, eq-eqb, refl}
use Rattle.std.proofs.lemmas.Bool.{eqb-true, true≢false}
use prog.Atomic.{either}
use Rattle.sf_group_rows.specs.declared.sizes.Sizes.{Sizes}
use Rattle.sf_group_steps.specs.Plays.{Moves}
use Rattle.sf_words.specs.KeyWord.{key_code}
use Rattle.sf_steps_laws.specs.World.{key_of, cleared_key_of}
use Rattle.sf_group_steps.specs.Words.{key}
use Rattle.sf_group_steps.proofs.LeadSteps.{lead_turns}
use Rattle.sf_group_steps.proofs.ForgetClears.{first_clear_move, first_clear_won, first_clear_lost}
use Rattle.sf_steps_laws.specs.declared.operation.Stage.TheVariants.{Forgetting}
use Rattle.sf_steps_laws.specs.declared.operation.ForgetStep.TheVariants as forget
use Rattle.sf_group_steps.proofs.ForgetLooks.{forgetting_alone}
use Rattle.sf_group_steps.proofs.Exchanging.{exchanged_last}
use Rattle.sf_group_steps.proofs.forgetting.first_clear.Goals as goal

pub exchange_turns-found-requires-clause-moves : goal.exchange_turns-found-requires-clause-moves
exchange_turns-found-requires-clause-moves g c =
    let v = c.args.seat.now.me.0 in
    let old_is : c.in-Some.old ≡ key_of c.args.called = c.in-Some.ensures.1 in
    let new_is : c.in-Some-new.new ≡ cleared_key_of c.args.called = c.in-Some-new.ensures.1 in
    subst (λ (z : Sizes). Moves z v (key c.args.actor.place) (λ n. either (n == c.pack_key-old.result) c.pack_key.result n) (lead_turns c.pack_key-old.result c.args.actor.number c.args.last)) c.requires.sizes
    (first_clear_move c.args.actor.sizes c.args.actor.number c.args.actor.place c.pack_key-old.result c.pack_key.result c.args.target c.args.called c.args.last v c.requires.asks c.requires.called
    (c.pack_key-old.ensures.code ∙ ap key_code old_is) (c.pack_key.ensures.code ∙ ap key_code new_is))

pub returns-clause-won : goal.returns-clause-won
returns-clause-won g c won =
    let v = c.args.seat.now.me.0 in
    let old_is : c.in-Some.old ≡ key_of c.args.called = c.in-Some.ensures.1 in
    let found = c.exchange_turns-found.ensures.told.0 c.args.actor.sizes c.requires.asks.sizes in
    first_clear_won c.args.actor.sizes c.args.actor.number c.args.actor.place c.exchange_turns-found.result c.pack_key-old.result c.args.target c.args.called c.args.last v c.exchange_turns-found.new.seat.me.0 c.requires.asks c.requires.called.0
    (c.pack_key-old.ensures.code ∙ ap key_code old_is) found (eqb-true c.exchange_turns-found.result c.pack_key-old.result won)

pub returns-clause-lost : goal.returns-clause-lost
returns-clause-lost g c lost =
    let v = c.args.seat.now.me.0 in
    let old_is : c.in-Some.old ≡ key_of c.args.called = c.in-Some.ensures.1 in
    let found = c.exchange_turns-found.ensures.told.0 c.args.actor.sizes c.requires.asks.sizes in
    first_clear_lost c.args.actor.sizes c.args.actor.number c.args.actor.place c.exchange_turns-found.result c.pack_key-old.result c.args.target c.args.called c.args.last v c.exchange_turns-found.new.seat.me.0 c.requires.asks c.requires.called.0
    (c.pack_key-old.ensures.code ∙ ap key_code old_is) found (λ e. true≢false (sym (eq-eqb c.exchange_turns-found.result c.pack_key-old.result e) ∙ lost))

pub returns-clause-exchanged : goal.returns-clause-exchanged
returns-clause-exchanged g c =
    exchanged_last c.args.actor.sizes c.args.actor.number c.pack_key-old.result c.exchange_turns-found.result c.args.last c.args.seat.now.me.0 c.exchange_turns-found.new.seat.me.0 (Forgetting c.args.actor.place c.args.target (forget.FirstClear c.args.called)) c.requires.asks (forgetting_alone c.args.actor.place c.args.target (forget.FirstClear c.args.called)) (c.exchange_turns-found.ensures.told.0 c.args.actor.sizes c.requires.asks.sizes).0 refl
