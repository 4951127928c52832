use Rattle.std.proofs.Common.{◌≡◌, ◌≤◌, ◌==◌, ◌∙◌, ap, sym, subst, false, arith, eq-eqb, refl}
use Rattle.std.proofs.lemmas.Bool.{eqb-true, true≢false}
use prog.Atomic.{either}
use Rattle.sf_words.specs.declared.key_word.KeyState.TheVariants.{Names}
use Rattle.sf_words.specs.KeyWord.{IsKeyState, key_code}
use Rattle.sf_group_rows.specs.declared.sizes.Sizes.{Sizes}
use Rattle.sf_group_steps.specs.Words.{key}
use Rattle.sf_group_steps.specs.Plays.{Moves}
use Rattle.sf_group_steps.proofs.LeadSteps.{lead_turns}
use Rattle.sf_group_chans.proofs.LeadSteps.{lead_move, lead_won, lead_lost}
use Rattle.sf_steps_laws.specs.declared.operation.AskStep.TheVariants as ask
use Rattle.sf_group_chans.proofs.Exchanging.{exchanged_last}
use Rattle.sf_group_chans.proofs.leading.lead.Goals as goal
use Rattle.sf_words.specs.declared.limits.TheConstants.{LARGEST_CALLER}

pub exchange_turns-found-requires-clause-moves : goal.exchange_turns-found-requires-clause-moves
exchange_turns-found-requires-clause-moves g c =
    let v = c.args.seat.now.me.0 in
    let a = c.args.askers in
    let caller = c.requires.asks.sit.first.caller in
    let high : a.number ≤ LARGEST_CALLER = let most = c.requires.askers.callers in let in_range = caller.1 in omega (arith, most, in_range) in
    let named : IsKeyState (Names a.number a.generation false) = ((caller.0, high), c.requires.askers.generation) in
    let old_is : c.in-Some.old ≡ c.args.seen = c.in-Some.ensures.1 in
    let new_is : c.in-Some-new.new ≡ Names a.number a.generation false = c.in-Some-new.ensures.1 in
    subst (λ (z : Sizes). Moves z v (key a.place) (λ n. either (n == c.pack_key-old.result) c.pack_key.result n) (lead_turns c.pack_key-old.result a.number c.args.last)) c.requires.sizes
    (lead_move a c.pack_key-old.result c.pack_key.result c.args.seen c.args.forgot c.args.last v c.requires.asks c.requires.seen.0 (named, caller.1)
    (c.pack_key-old.ensures.code ∙ ap key_code old_is) (c.pack_key.ensures.code ∙ ap key_code new_is))

pub returns-clause-won : goal.returns-clause-won
returns-clause-won g c won =
    let old_is : c.in-Some.old ≡ c.args.seen = c.in-Some.ensures.1 in
    let found = c.exchange_turns-found.ensures.told.0 c.args.askers.sizes c.requires.asks.sit.first.sizes in
    lead_won c.args.askers c.exchange_turns-found.result c.pack_key-old.result c.args.seen c.args.forgot c.args.last c.args.seat.now.me.0 c.exchange_turns-found.new.seat.me.0 c.requires.asks.apart c.requires.asks c.requires.seen.0
    (c.pack_key-old.ensures.code ∙ ap key_code old_is) found (eqb-true c.exchange_turns-found.result c.pack_key-old.result won)

pub returns-clause-lost : goal.returns-clause-lost
returns-clause-lost g c lost =
    let old_is : c.in-Some.old ≡ c.args.seen = c.in-Some.ensures.1 in
    let found = c.exchange_turns-found.ensures.told.0 c.args.askers.sizes c.requires.asks.sit.first.sizes in
    lead_lost c.args.askers c.exchange_turns-found.result c.pack_key-old.result c.args.seen c.args.forgot c.args.last c.args.seat.now.me.0 c.exchange_turns-found.new.seat.me.0 c.requires.asks.apart c.requires.asks c.requires.seen.0
    (c.pack_key-old.ensures.code ∙ ap key_code old_is) found (λ e. true≢false (sym (eq-eqb c.exchange_turns-found.result c.pack_key-old.result e) ∙ lost))

pub returns-clause-exchanged : goal.returns-clause-exchanged
returns-clause-exchanged g c =
    exchanged_last c.args.askers c.pack_key-old.result c.exchange_turns-found.result c.args.last c.args.seat.now.me.0 c.exchange_turns-found.new.seat.me.0 (ask.Lead c.args.seen c.args.forgot) c.requires.asks (c.exchange_turns-found.ensures.told.0 c.args.askers.sizes c.requires.asks.sit.first.sizes).0 refl
