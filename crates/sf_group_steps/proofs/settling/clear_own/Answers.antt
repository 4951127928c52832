use Rattle.std.proofs.Common.{◌≡◌, ◌≤◌, ◌==◌, ◌∙◌, ap, subst, [], ◌∷◌, false, true, arith}
use prog.Atomic.{either}
use Rattle.sf_steps_laws.specs.declared.turn.Turn.TheVariants.{Step}
use Rattle.sf_group_rows.specs.declared.sizes.Sizes.{Sizes}
use Rattle.sf_group_steps.specs.Plays.{Moves}
use Rattle.sf_words.specs.declared.key_word.KeyState.TheVariants.{Names}
use Rattle.sf_words.specs.KeyWord.{IsKeyState, key_code}
use Rattle.sf_group_steps.specs.Words.{key}
use Rattle.sf_group_steps.proofs.SettleSteps.{settle_clear_move, settle_clear_told}
use Rattle.sf_group_steps.proofs.settling.clear_own.Goals as goal
use Rattle.sf_words.specs.declared.limits.TheConstants.{LARGEST_GENERATION}

pub exchange_turns-requires-clause-moves : goal.exchange_turns-requires-clause-moves
exchange_turns-requires-clause-moves g c =
    let v = c.args.seat.now.me.0 in
    let old_is : c.in-Some.old ≡ Names c.args.actor.number c.args.generation false = c.in-Some.ensures.1 in
    let new_is : c.in-Some-new.new ≡ Names c.args.actor.number c.args.generation true = c.in-Some-new.ensures.1 in
    let high : c.args.generation ≤ LARGEST_GENERATION = let fits = c.ranges.generation.fits in omega arith in
    let named : IsKeyState (Names c.args.actor.number c.args.generation false) = ((c.args.actor.caller.0, omega arith), (c.requires.generation, high)) in
    subst (λ (z : Sizes). Moves z v (key c.args.actor.place) (λ n. either (n == c.pack_key.result) c.pack_key-2.result n) (λ _. Step c.args.actor.number ∷ [])) c.requires.sizes
    (settle_clear_move c.args.actor.sizes c.args.actor.number c.args.actor.place c.args.generation c.pack_key.result c.pack_key-2.result c.args.own c.args.value.now c.args.top v c.requires.asks (named, c.args.actor.caller.1)
    (c.pack_key.ensures.code ∙ ap key_code old_is) (c.pack_key-2.ensures.code ∙ ap key_code new_is))

pub returns-clause-told : goal.returns-clause-told
returns-clause-told g c =
    let v = c.args.seat.now.me.0 in
    settle_clear_told c.args.actor.sizes c.args.actor.number c.args.actor.place c.args.generation c.exchange_turns.result c.args.own c.args.value.now c.args.top v c.exchange_turns.new.seat.me.0 c.requires.asks (c.exchange_turns.ensures.told.0 c.args.actor.sizes c.requires.asks.sizes)
