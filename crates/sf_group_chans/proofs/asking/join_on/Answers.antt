use Rattle.std.proofs.Common.{refl, [], ◌∷◌, Some}
use Rattle.sf_history.specs.declared.event.Event.TheVariants.{Enter}
use Rattle.sf_words.specs.CallWord.{call_code}
use Rattle.sf_words.specs.declared.call_word.CallState.TheVariants.{Open}
use Rattle.sf_steps_laws.specs.declared.operation.Stage.TheVariants.{Free, Asking, Seconding, Holding}
use Rattle.sf_steps_laws.specs.declared.operation.AskStep.TheVariants as ask
use Rattle.sf_group_steps.specs.Words.{call}
use Rattle.sf_group_chans.specs.Both.{member_of, lost_first, lost_second}
use Rattle.sf_group_chans.proofs.Trying.{go_after, stay_again, lose_after}
use Rattle.sf_group_chans.proofs.asking.join_on.Goals as goal

pub returns-then-enter-clause-joined : goal.returns-then-enter-clause-joined
returns-then-enter-clause-joined g c =
    let a = c.args.askers in
    let v = c.args.seat.now.me.0 in
    let w = c.link.new.seat.me.0 in
    let both = stay_again a v c.ready_join.new.seat.me.0 w (Asking a.place (Some a.second) (ask.Link c.args.called c.args.seen)) (Seconding a.number) (Asking a.place (Some a.second) (ask.Enter c.args.called c.args.seen)) (Seconding a.number) c.ready_join.ensures.told c.link.ensures.told in (
      refl,
      go_after a v w c.enter.new.seat.me.0 (Asking a.place (Some a.second) (ask.Enter c.args.called c.args.seen)) (Seconding a.number) Free (Holding a.place a.second_generation c.args.called) [] (Enter a.second a.place c.args.called (member_of a) ∷ []) 0 1
          both.goes (c.enter.ensures.won c.if-enter.true),
    )

pub returns-else-enter-clause-joined : goal.returns-else-enter-clause-joined
returns-else-enter-clause-joined g c =
    let a = c.args.askers in
    let v = c.args.seat.now.me.0 in
    let w = c.link.new.seat.me.0 in
    let both = stay_again a v c.ready_join.new.seat.me.0 w (Asking a.place (Some a.second) (ask.Link c.args.called c.args.seen)) (Seconding a.number) (Asking a.place (Some a.second) (ask.Enter c.args.called c.args.seen)) (Seconding a.number) c.ready_join.ensures.told c.link.ensures.told in
    lose_after a (call_code (Open c.args.seen)) (call c.args.called.caller) v w c.enter.new.seat.me.0 (Asking a.place (Some a.second) (ask.Enter c.args.called c.args.seen)) (Seconding a.number) (lost_first a c.args.last) (lost_second a c.args.last) c.requires.other.0 c.requires.other.1
    both (c.enter.ensures.lost c.if-enter.false)
