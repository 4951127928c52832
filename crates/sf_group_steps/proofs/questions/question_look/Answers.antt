use Rattle.std.proofs.Common.{Bool, [], ◌∷◌, sym, subst}
use Rattle.sf_words.specs.declared.key_word.KeyState.{KeyState}
use Rattle.sf_steps_laws.specs.declared.turn.Turn.TheVariants.{Step}
use Rattle.sf_group_rows.specs.declared.sizes.Sizes.{Sizes}
use Rattle.sf_group_steps.specs.Words.{key}
use Rattle.sf_group_steps.specs.Plays.{Moves}
use Rattle.sf_group_steps.specs.Questions.{HasLooked}
use Rattle.sf_group_steps.proofs.QuestionSteps.{question_look_move, question_look_told}
use Rattle.sf_group_steps.proofs.questions.question_look.Goals as goal

pub load_turns-found-requires-clause-moves : goal.load_turns-found-requires-clause-moves
load_turns-found-requires-clause-moves g c =
    let r = c.args.actor in
    let v = c.args.seat.now.me.0 in
    subst (λ (z : Sizes). Moves z v (key r.place) (λ n. n) (λ _. Step r.number ∷ [])) c.requires.sizes
    (question_look_move r.sizes r.number r.place c.args.called v c.requires.asks)

pub returns-clause-looked : goal.returns-clause-looked
returns-clause-looked g c =
    let r = c.args.actor in
    let v = c.args.seat.now.me.0 in
    let found = c.load_turns-found.ensures.told.0 r.sizes c.requires.asks.sizes in
    let told = question_look_told r.sizes r.number r.place c.load_turns-found.result c.args.called v c.load_turns-found.new.seat.me.0 c.state.result c.requires.asks found
    (λ (y : KeyState) lawful code. let one = c.unpack_key.ensures.inverse y lawful.0 code in let is = c.in-Some.is in let same = c.state.ensures.same in cc) in
    subst (λ (b : Bool). HasLooked r.sizes r.number r.place c.args.called v c.load_turns-found.new.seat.me.0 b) (sym c.names.ensures) told
