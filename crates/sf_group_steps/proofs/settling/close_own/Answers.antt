use Rattle.std.proofs.Common.{◌≡◌, ◌==◌, ◌∙◌, ap, sym, subst, [], ◌∷◌, eq-eqb}
use Rattle.std.proofs.lemmas.Bool.{eqb-true, true≢false}
use prog.Atomic.{either}
use Rattle.sf_steps_laws.specs.declared.turn.Turn.TheVariants.{Step}
use Rattle.sf_group_rows.specs.declared.sizes.Sizes.{Sizes}
use Rattle.sf_group_steps.specs.Plays.{Moves}
use Rattle.sf_words.specs.declared.call_word.CallState.TheVariants.{Open, Done}
use Rattle.sf_words.specs.CallWord.{call_code}
use Rattle.sf_group_steps.specs.Words.{call}
use Rattle.sf_group_steps.proofs.Finishing.{close_move}
use Rattle.sf_group_steps.proofs.SettleSteps.{close_settles, close_fails}
use Rattle.sf_group_steps.proofs.settling.close_own.Goals as goal

pub exchange_turns-found-requires-clause-moves : goal.exchange_turns-found-requires-clause-moves
exchange_turns-found-requires-clause-moves g c =
    let v = c.args.seat.now.me.0 in
    let old_is : c.in-Some.old ≡ Open c.args.seen = c.in-Some.ensures.1 in
    let new_is : c.in-Some-new.new ≡ Done c.args.seen = c.in-Some-new.ensures.1 in
    subst (λ (z : Sizes). Moves z v (call c.args.actor.number) (λ n. either (n == c.pack_call-old.result) c.pack_call.result n) (λ _. Step c.args.actor.number ∷ [])) c.requires.sizes
    (close_move c.args.actor.sizes c.args.actor.number c.args.actor.place c.args.generation c.pack_call-old.result c.pack_call.result c.args.own c.args.value.now c.args.seen v c.requires.asks c.requires.seen
    (c.pack_call-old.ensures.code ∙ ap call_code old_is) (c.pack_call.ensures.code ∙ ap call_code new_is))

pub returns-clause-won : goal.returns-clause-won
returns-clause-won g c won =
    let v = c.args.seat.now.me.0 in
    let old_is : c.in-Some.old ≡ Open c.args.seen = c.in-Some.ensures.1 in
    let found = c.exchange_turns-found.ensures.told.0 c.args.actor.sizes c.requires.asks.sizes in
    close_settles c.args.actor.sizes c.args.actor.number c.args.actor.place c.args.generation c.exchange_turns-found.result c.pack_call-old.result c.args.own c.args.value.now c.args.seen v c.exchange_turns-found.new.seat.me.0 c.requires.asks c.requires.seen.0
    (c.pack_call-old.ensures.code ∙ ap call_code old_is) found (eqb-true c.exchange_turns-found.result c.pack_call-old.result won)

pub returns-clause-lost : goal.returns-clause-lost
returns-clause-lost g c lost =
    let v = c.args.seat.now.me.0 in
    let old_is : c.in-Some.old ≡ Open c.args.seen = c.in-Some.ensures.1 in
    let found = c.exchange_turns-found.ensures.told.0 c.args.actor.sizes c.requires.asks.sizes in
    close_fails c.args.actor.sizes c.args.actor.number c.args.actor.place c.args.generation c.exchange_turns-found.result c.pack_call-old.result c.args.own c.args.value.now c.args.seen v c.exchange_turns-found.new.seat.me.0 c.requires.asks c.requires.seen.0
    (c.pack_call-old.ensures.code ∙ ap call_code old_is) found (λ e. true≢false (sym (eq-eqb c.exchange_turns-found.result c.pack_call-old.result e) ∙ lost))
