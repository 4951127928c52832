use Rattle.std.proofs.Common.{subst}
use Rattle.sf_words.specs.declared.key_word.KeyState.{KeyState}
use Rattle.sf_group_rows.specs.declared.sizes.Sizes.{Sizes}
use Rattle.sf_group_steps.specs.Words.{key}
use Rattle.sf_group_steps.specs.Plays.{Moves}
use Rattle.sf_group_steps.specs.Stands.{stage_in}
use Rattle.sf_group_steps.specs.Forgets.{forget_turns}
use Rattle.sf_group_steps.proofs.ForgetLooks.{forget_look_move, forget_look_told, forget_sizes}
use Rattle.sf_group_steps.proofs.Exchanging.{exchanged_forget_look}
use Rattle.sf_group_steps.proofs.forgetting.forget_look.Goals as goal

pub load_turns-found-requires-clause-moves : goal.load_turns-found-requires-clause-moves
load_turns-found-requires-clause-moves g c =
    let v = c.args.seat.now.me.0 in
    subst (λ (z : Sizes). Moves z v (key c.args.actor.place) (λ n. n) (λ _. forget_turns (stage_in v c.args.actor.number) c.args.actor.number c.args.actor.place c.args.target)) c.requires.sizes
    (forget_look_move c.args.actor.sizes c.args.actor.number c.args.actor.place c.args.target v c.args.actor.placed c.requires.may)

pub returns-clause-told : goal.returns-clause-told
returns-clause-told g c =
    let v = c.args.seat.now.me.0 in
    let found = c.load_turns-found.ensures.told.0 c.args.actor.sizes (forget_sizes c.args.actor.sizes c.args.actor.number c.args.actor.place c.args.target v c.requires.may) in
    (forget_look_told c.args.actor.sizes c.args.actor.number c.args.actor.place c.load_turns-found.result c.args.target v c.load_turns-found.new.seat.me.0 c.state.result c.args.actor.placed c.requires.may found
    (λ (y : KeyState) lawful code. let one = c.unpack_key.ensures.inverse y lawful.0 code in let is = c.in-Some.is in let same = c.state.ensures.same in cc)).0

pub returns-clause-shown : goal.returns-clause-shown
returns-clause-shown g c =
    let v = c.args.seat.now.me.0 in
    let found = c.load_turns-found.ensures.told.0 c.args.actor.sizes (forget_sizes c.args.actor.sizes c.args.actor.number c.args.actor.place c.args.target v c.requires.may) in
    (forget_look_told c.args.actor.sizes c.args.actor.number c.args.actor.place c.load_turns-found.result c.args.target v c.load_turns-found.new.seat.me.0 c.state.result c.args.actor.placed c.requires.may found
    (λ (y : KeyState) lawful code. let one = c.unpack_key.ensures.inverse y lawful.0 code in let is = c.in-Some.is in let same = c.state.ensures.same in cc)).1

pub returns-clause-exchanged : goal.returns-clause-exchanged
returns-clause-exchanged g c =
    exchanged_forget_look c.args.actor.sizes c.args.actor.number c.args.actor.place c.args.target c.args.seat.now.me.0 c.load_turns-found.new.seat.me.0 c.requires.may
    (c.load_turns-found.ensures.told.0 c.args.actor.sizes (forget_sizes c.args.actor.sizes c.args.actor.number c.args.actor.place c.args.target c.args.seat.now.me.0 c.requires.may)).0
