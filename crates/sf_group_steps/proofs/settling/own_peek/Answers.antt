use Rattle.std.proofs.Common.{subst}
use Rattle.sf_words.specs.declared.call_word.CallState.{CallState}
use Rattle.sf_group_rows.specs.declared.sizes.Sizes.{Sizes}
use Rattle.sf_group_steps.specs.Words.{call}
use Rattle.sf_group_steps.specs.Plays.{Moves}
use Rattle.sf_group_steps.specs.Stands.{stage_in}
use Rattle.sf_group_steps.specs.Settles.{settle_turns}
use Rattle.sf_group_steps.proofs.SettleSteps.{own_peek_move, own_peek_told, settle_sizes, leaders_word}
use Rattle.sf_group_steps.proofs.settling.own_peek.Goals as goal

pub load_turns-found-requires-clause-moves : goal.load_turns-found-requires-clause-moves
load_turns-found-requires-clause-moves g c =
    let v = c.args.seat.now.me.0 in
    subst (λ (z : Sizes). Moves z v (call c.args.actor.number) (λ n. n) (λ _. settle_turns (stage_in v c.args.actor.number) c.args.actor.number c.args.value.now)) c.requires.sizes
    (own_peek_move c.args.actor.sizes c.args.actor.number c.args.actor.place c.args.generation c.args.own c.args.value.now v c.requires.may)

pub returns-clause-told : goal.returns-clause-told
returns-clause-told g c =
    let v = c.args.seat.now.me.0 in
    let found = c.load_turns-found.ensures.told.0 c.args.actor.sizes (settle_sizes c.args.actor.sizes c.args.actor.number c.args.actor.place c.args.generation c.args.own c.args.value.now v c.requires.may) in
    (own_peek_told c.args.actor.sizes c.args.actor.number c.args.actor.place c.args.generation c.load_turns-found.result c.args.own c.args.value.now v c.load_turns-found.new.seat.me.0 c.state.result c.requires.may found
    (λ (y : CallState) lawful code. let one = c.unpack_call.ensures.inverse y lawful.0 code in let is = c.in-Some.is in let same = c.state.ensures.same in cc)).0

pub returns-clause-leads : goal.returns-clause-leads
returns-clause-leads g c =
    let v = c.args.seat.now.me.0 in
    let found = c.load_turns-found.ensures.told.0 c.args.actor.sizes (settle_sizes c.args.actor.sizes c.args.actor.number c.args.actor.place c.args.generation c.args.own c.args.value.now v c.requires.may) in
    leaders_word c.args.generation c.state.result (own_peek_told c.args.actor.sizes c.args.actor.number c.args.actor.place c.args.generation c.load_turns-found.result c.args.own c.args.value.now v c.load_turns-found.new.seat.me.0 c.state.result c.requires.may found
    (λ (y : CallState) lawful code. let one = c.unpack_call.ensures.inverse y lawful.0 code in let is = c.in-Some.is in let same = c.state.ensures.same in cc)).1
