use Rattle.std.proofs.Common.{true, false, []}
use Rattle.sf_steps_laws.specs.declared.operation.Stage.TheVariants.{Free, Questioning}
use Rattle.sf_steps_laws.specs.declared.operation.CurrentStep.TheVariants.{Look}
use Rattle.sf_group_steps.proofs.Trying.{goes_after}
use Rattle.sf_group_steps.proofs.QuestionSteps.{led_known, peeked_forgot, goes_peeked, looked_after}
use Rattle.sf_group_steps.proofs.questions.ask_current.Goals as goal

pub question_peek-requires-clause-called : goal.question_peek-requires-clause-called
question_peek-requires-clause-called g c = led_known c.args.actor.sizes c.args.actor.place c.args.called c.args.seat.now.me.0.known.turns c.requires.free.schedule c.requires.led

pub question_look-requires-clause-asks : goal.question_look-requires-clause-asks
question_look-requires-clause-asks g c =
    let r = c.args.actor in
    (goes_peeked r.sizes r.number r.place c.args.called c.args.seat.now.me.0 c.question_peek.new.seat.me.0 c.question_peek.result false c.question_peek.ensures.peeked c.if-question_peek.false).sits

pub returns-then-question_peek-clause-free : goal.returns-then-question_peek-clause-free
returns-then-question_peek-clause-free g c =
    let r = c.args.actor in
    goes_peeked r.sizes r.number r.place c.args.called c.args.seat.now.me.0 c.question_peek.new.seat.me.0 c.question_peek.result true c.question_peek.ensures.peeked c.if-question_peek.true

pub returns-then-question_peek-clause-outdated : goal.returns-then-question_peek-clause-outdated
returns-then-question_peek-clause-outdated g c = λ answered.
    let r = c.args.actor in
    peeked_forgot r.sizes r.number r.place c.args.called c.args.seat.now.me.0 c.question_peek.new.seat.me.0 c.question_peek.result c.question_peek.ensures.peeked c.if-question_peek.true

pub returns-clause-free : goal.returns-clause-free
returns-clause-free g c =
    let r = c.args.actor in
    let u = c.question_peek.new.seat.me.0 in
    goes_after r.sizes r.number c.args.seat.now.me.0 u c.question_look.new.seat.me.0 (Questioning r.place c.args.called Look) Free [] 0
    (goes_peeked r.sizes r.number r.place c.args.called c.args.seat.now.me.0 u c.question_peek.result false c.question_peek.ensures.peeked c.if-question_peek.false) c.question_look.ensures.looked.goes

pub returns-clause-right : goal.returns-clause-right
returns-clause-right g c =
    let r = c.args.actor in
    (looked_after r.sizes r.number r.place c.args.called c.args.seat.now.me.0 c.question_peek.new.seat.me.0 c.question_look.new.seat.me.0 c.question_peek.result c.question_look.result c.question_peek.ensures.peeked c.if-question_peek.false c.question_look.ensures.looked).right

pub returns-clause-outdated : goal.returns-clause-outdated
returns-clause-outdated g c =
    let r = c.args.actor in
    (looked_after r.sizes r.number r.place c.args.called c.args.seat.now.me.0 c.question_peek.new.seat.me.0 c.question_look.new.seat.me.0 c.question_peek.result c.question_look.result c.question_peek.ensures.peeked c.if-question_peek.false c.question_look.ensures.looked).outdated
