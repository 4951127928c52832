use Rattle.std.proofs.Common.{◌≡◌, ◌≤◌, ◌==◌, ◌∙◌, ap, sym, subst, arith, eq-eqb, refl}
use Rattle.std.proofs.lemmas.Bool.{eqb-true, true≢false}
use prog.Atomic.{either}
use Rattle.sf_words.specs.declared.call_word.CallState.TheVariants.{Open}
use Rattle.sf_words.specs.CallWord.{call_code}
use Rattle.sf_steps_laws.specs.Askings.{with_top}
use Rattle.sf_group_rows.specs.declared.sizes.Sizes.{Sizes}
use Rattle.sf_group_steps.specs.Words.{call, IsCallFor}
use Rattle.sf_group_steps.specs.Plays.{Moves}
use Rattle.sf_group_steps.proofs.LeadSteps.{lead_turns}
use Rattle.sf_group_chans.proofs.EnterSteps.{enter_move, enter_won, enter_lost}
use Rattle.sf_steps_laws.specs.declared.operation.AskStep.TheVariants as ask
use Rattle.sf_group_chans.proofs.Exchanging.{exchanged_last}
use Rattle.sf_group_chans.proofs.joining.enter.Goals as goal
use Rattle.sf_words.specs.declared.limits.TheConstants.{LARGEST_CALLER}

pub exchange_turns-found-requires-clause-moves : goal.exchange_turns-found-requires-clause-moves
exchange_turns-found-requires-clause-moves g c =
    let v = c.args.seat.now.me.0 in
    let a = c.args.askers in
    let caller = c.requires.asks.sit.second.caller in
    let high : a.second ≤ LARGEST_CALLER = let most = c.requires.askers.callers in let in_range = caller.1 in omega (arith, most, in_range) in
    let old_is : c.in-Some.old ≡ Open c.args.seen = c.in-Some.ensures.1 in
    let new_is : c.in-Some-new.new ≡ Open (with_top c.args.seen a.second) = c.in-Some-new.ensures.1 in
    let lawful : IsCallFor a.sizes.callers (Open (with_top c.args.seen a.second)) = ((c.requires.seen.0.0, (caller.0, high)), caller.1) in
    subst (λ (z : Sizes). Moves z v (call c.args.called.caller) (λ n. either (n == c.pack_call-old.result) c.pack_call.result n) (lead_turns c.pack_call-old.result a.number c.args.last)) c.requires.sizes
    (enter_move a c.pack_call-old.result c.pack_call.result c.args.called c.args.seen c.args.last v c.requires.asks c.requires.seen.0 lawful
    (c.pack_call-old.ensures.code ∙ ap call_code old_is) (c.pack_call.ensures.code ∙ ap call_code new_is))

pub returns-clause-won : goal.returns-clause-won
returns-clause-won g c won =
    let old_is : c.in-Some.old ≡ Open c.args.seen = c.in-Some.ensures.1 in
    let found = c.exchange_turns-found.ensures.told.0 c.args.askers.sizes c.requires.asks.sit.first.sizes in
    enter_won c.args.askers c.exchange_turns-found.result c.pack_call-old.result c.args.called c.args.seen c.args.last c.args.seat.now.me.0 c.exchange_turns-found.new.seat.me.0 c.requires.asks.apart c.requires.asks c.requires.seen.0
    (c.pack_call-old.ensures.code ∙ ap call_code old_is) found (eqb-true c.exchange_turns-found.result c.pack_call-old.result won)

pub returns-clause-lost : goal.returns-clause-lost
returns-clause-lost g c lost =
    let old_is : c.in-Some.old ≡ Open c.args.seen = c.in-Some.ensures.1 in
    let found = c.exchange_turns-found.ensures.told.0 c.args.askers.sizes c.requires.asks.sit.first.sizes in
    enter_lost c.args.askers c.exchange_turns-found.result c.pack_call-old.result c.args.called c.args.seen c.args.last c.args.seat.now.me.0 c.exchange_turns-found.new.seat.me.0 c.requires.asks.apart c.requires.asks c.requires.seen.0
    (c.pack_call-old.ensures.code ∙ ap call_code old_is) found (λ e. true≢false (sym (eq-eqb c.exchange_turns-found.result c.pack_call-old.result e) ∙ lost))

pub returns-clause-exchanged : goal.returns-clause-exchanged
returns-clause-exchanged g c =
    exchanged_last c.args.askers c.pack_call-old.result c.exchange_turns-found.result c.args.last c.args.seat.now.me.0 c.exchange_turns-found.new.seat.me.0 (ask.Enter c.args.called c.args.seen) c.requires.asks (c.exchange_turns-found.ensures.told.0 c.args.askers.sizes c.requires.asks.sit.first.sizes).0 refl
