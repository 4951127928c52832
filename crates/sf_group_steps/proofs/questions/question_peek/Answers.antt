use Rattle.std.proofs.Common.{Bool, sym, subst}
use Rattle.sf_words.specs.declared.call_word.CallState.{CallState}
use Rattle.sf_group_rows.specs.declared.sizes.Sizes.{Sizes}
use Rattle.sf_group_steps.specs.Words.{call}
use Rattle.sf_group_steps.specs.Plays.{Moves}
use Rattle.sf_group_steps.specs.Questions.{question_turns, HasPeeked}
use Rattle.sf_group_steps.proofs.QuestionSteps.{question_peek_move, question_peek_told}
use Rattle.sf_group_steps.proofs.questions.question_peek.Goals as goal

pub load_turns-found-requires-clause-moves : goal.load_turns-found-requires-clause-moves
load_turns-found-requires-clause-moves g c =
    let r = c.args.actor in
    let v = c.args.seat.now.me.0 in
    subst (λ (z : Sizes). Moves z v (call c.args.called.caller) (λ n. n) (λ _. question_turns r.number r.place c.args.called)) c.requires.sizes
    (question_peek_move r.sizes r.number r.place c.args.called v c.args.actor.placed c.requires.led c.requires.free)

pub returns-clause-peeked : goal.returns-clause-peeked
returns-clause-peeked g c =
    let r = c.args.actor in
    let v = c.args.seat.now.me.0 in
    let found = c.load_turns-found.ensures.told.0 r.sizes c.requires.free.sizes in
    let told = question_peek_told r.sizes r.number r.place c.load_turns-found.result c.args.called v c.load_turns-found.new.seat.me.0 c.state.result c.args.actor.placed c.requires.led c.requires.free found
    (λ (y : CallState) lawful code. let one = c.unpack_call.ensures.inverse y lawful.0 code in let is = c.in-Some.is in let same = c.state.ensures.same in cc) in
    subst (λ (b : Bool). HasPeeked r.sizes r.number r.place c.args.called v c.load_turns-found.new.seat.me.0 b) (sym c.is_forgot.ensures) told
