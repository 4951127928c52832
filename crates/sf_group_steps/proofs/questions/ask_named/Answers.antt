use Rattle.std.proofs.Common.{sym, subst}
use Rattle.sf_words.specs.declared.key_word.KeyState.{KeyState}
use Rattle.sf_group_rows.specs.declared.sizes.Sizes.{Sizes}
use Rattle.sf_steps_laws.specs.Naming.{IsNamed}
use Rattle.sf_group_steps.specs.Words.{key}
use Rattle.sf_group_steps.specs.View.{history_of}
use Rattle.sf_group_steps.specs.Plays.{Moves}
use Rattle.sf_group_steps.specs.Questions.{named_turns}
use Rattle.sf_group_steps.proofs.QuestionSteps.{named_move, named_told}
use Rattle.sf_group_steps.proofs.questions.ask_named.Goals as goal

pub load_turns-found-requires-clause-moves : goal.load_turns-found-requires-clause-moves
load_turns-found-requires-clause-moves g c =
    let r = c.args.actor in
    let v = c.args.seat.now.me.0 in
    subst (λ (z : Sizes). Moves z v (key r.place) (λ n. n) (λ _. named_turns r.number r.place)) c.requires.sizes
    (named_move r.sizes r.number r.place v c.args.actor.placed c.requires.free)

pub returns-clause-free : goal.returns-clause-free
returns-clause-free g c =
    let r = c.args.actor in
    let v = c.args.seat.now.me.0 in
    let found = c.load_turns-found.ensures.told.0 r.sizes c.requires.free.sizes in
    (named_told r.sizes r.number r.place c.load_turns-found.result v c.load_turns-found.new.seat.me.0 c.state.result c.args.actor.placed c.requires.free found
    (λ (y : KeyState) lawful code. let one = c.unpack_key.ensures.inverse y lawful.0 code in let is = c.in-Some.is in let same = c.state.ensures.same in cc)).0

pub returns-clause-named : goal.returns-clause-named
returns-clause-named g c =
    let r = c.args.actor in
    let v = c.args.seat.now.me.0 in
    let w = c.load_turns-found.new.seat.me.0 in
    let found = c.load_turns-found.ensures.told.0 r.sizes c.requires.free.sizes in
    let told = (named_told r.sizes r.number r.place c.load_turns-found.result v w c.state.result c.args.actor.placed c.requires.free found
    (λ (y : KeyState) lawful code. let one = c.unpack_key.ensures.inverse y lawful.0 code in let is = c.in-Some.is in let same = c.state.ensures.same in cc)).1 in
    subst (λ o. IsNamed (history_of r.sizes w.known.turns) r.place o) (sym c.named_by.ensures) told
