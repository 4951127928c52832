use Rattle.std.proofs.Common.{subst}
use Rattle.sf_words.specs.declared.key_word.KeyState.{KeyState}
use Rattle.sf_group_rows.specs.declared.sizes.Sizes.{Sizes}
use Rattle.sf_group_steps.specs.Words.{key}
use Rattle.sf_group_steps.specs.Plays.{Moves}
use Rattle.sf_group_steps.specs.Stands.{stage_in}
use Rattle.sf_group_chans.specs.Both.{look_turns}
use Rattle.sf_group_chans.proofs.LookSteps.{look_move, look_told, may_sizes}
use Rattle.sf_group_chans.proofs.Exchanging.{exchanged_look}
use Rattle.sf_group_chans.proofs.leading.look.Goals as goal

pub load_turns-found-requires-clause-moves : goal.load_turns-found-requires-clause-moves
load_turns-found-requires-clause-moves g c =
    let v = c.args.seat.now.me.0 in
    let a = c.args.askers in
    subst (λ (z : Sizes). Moves z v (key a.place) (λ n. n) (λ _. look_turns (stage_in v a.number) a)) c.requires.sizes (look_move a v c.requires.askers c.requires.may)

pub returns-clause-told : goal.returns-clause-told
returns-clause-told g c =
    let v = c.args.seat.now.me.0 in
    let a = c.args.askers in
    let found = c.load_turns-found.ensures.told.0 a.sizes (may_sizes a v c.requires.may) in
    (look_told a c.load_turns-found.result v c.load_turns-found.new.seat.me.0 c.state.result c.requires.askers c.requires.may found
    (λ (y : KeyState) lawful code. let one = c.unpack_key.ensures.inverse y lawful.0 code in let is = c.in-Some.is in let same = c.state.ensures.same in cc)).0

pub returns-clause-shown : goal.returns-clause-shown
returns-clause-shown g c =
    let v = c.args.seat.now.me.0 in
    let a = c.args.askers in
    let found = c.load_turns-found.ensures.told.0 a.sizes (may_sizes a v c.requires.may) in
    (look_told a c.load_turns-found.result v c.load_turns-found.new.seat.me.0 c.state.result c.requires.askers c.requires.may found
    (λ (y : KeyState) lawful code. let one = c.unpack_key.ensures.inverse y lawful.0 code in let is = c.in-Some.is in let same = c.state.ensures.same in cc)).1

pub returns-clause-exchanged : goal.returns-clause-exchanged
returns-clause-exchanged g c =
    exchanged_look c.args.askers c.args.seat.now.me.0 c.load_turns-found.new.seat.me.0 c.requires.askers c.requires.may (c.load_turns-found.ensures.told.0 c.args.askers.sizes (may_sizes c.args.askers c.args.seat.now.me.0 c.requires.may)).0
