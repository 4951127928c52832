use Rattle.std.proofs.Common.{◌≡◌, ℕ, ◌+◌, ◌≤◌, ◌==◌, ◌∙◌, refl, subst, arith}
use Rattle.sf_group_steps.specs.Forgets.{Forgetting}
use Rattle.sf_group_steps.proofs.Exchanging.{forgot_so}
use Rattle.sf_group_steps.proofs.Forgets.{forgetting_none, forgetting_more, forgotten_now, forgotten_all}
use Rattle.sf_group_steps.proofs.forgetting.forget_often.Goals as goal

pub loop-failed-init : goal.loop-failed-init
loop-failed-init g c = (refl, refl, forgetting_none c.args.actor.sizes c.args.actor.number c.args.actor.place c.args.target c.args.tries c.args.seat.now.me.0 c.requires.free, omega arith)

pub returns-in_default : goal.returns-in_default
returns-in_default g c =
    let was = c.loop-failed.invariant in
    let own = c.forget_once-attempt.ensures.own in
    record {
      own = (own.0 ∙ was.0, own.1 ∙ was.1);
      forgot = forgotten_now c.args.actor.sizes c.args.actor.number c.args.actor.place c.args.target c.args.tries c.loop-failed.failed c.args.seat.now.me.0 c.loop-failed.seat.me.0 c.forget_once-attempt.new.seat.me.0 (c.loop-failed.failed + 1 == c.args.tries) c.forget_once-attempt.result
          c.in_default.not-Lost was.2 c.forget_once-attempt.ensures.forgot;
      exchanged = let few : c.loop-failed.failed + 1 ≤ c.args.tries = let low = c.loop-failed-test.true in omega arith in
          forgot_so c.args.actor.sizes c.args.actor.number c.args.tries c.loop-failed.failed c.args.seat.now.me.0 c.loop-failed.seat.me.0 c.forget_once-attempt.new.seat.me.0 c.forget_once-attempt.result c.in_default.not-Lost few was.3 c.forget_once-attempt.ensures.exchanged;
    }

pub loop-failed-preserved : goal.loop-failed-preserved
loop-failed-preserved g c =
    let was = c.loop-failed.invariant in
    let own = c.forget_once-attempt.ensures.own in
    (own.0 ∙ was.0, own.1 ∙ was.1, forgetting_more c.args.actor.sizes c.args.actor.number c.args.actor.place c.args.target c.args.tries c.loop-failed.failed c.args.seat.now.me.0 c.loop-failed.seat.me.0 c.forget_once-attempt.new.seat.me.0 was.2 c.in-Lost.ensures.forgot, let old = was.3 in let one = c.in-Lost.ensures.exchanged in omega (arith, old, one))

pub returns-clause-forgot : goal.returns-clause-forgot
returns-clause-forgot g c =
    let was = c.loop-failed.invariant in
    let last : c.loop-failed.failed ≡ c.args.tries = let low = c.loop-failed-test.false in let high = c.loop-failed.auto.failed-end in omega arith in
    forgotten_all c.args.actor.sizes c.args.actor.number c.args.actor.place c.args.target c.args.tries c.args.seat.now.me.0 c.loop-failed.seat.me.0
    (subst (λ (n : ℕ). Forgetting c.args.actor.sizes c.args.actor.number c.args.actor.place c.args.target c.args.tries n c.args.seat.now.me.0 c.loop-failed.seat.me.0) last was.2)

pub returns-clause-exchanged : goal.returns-clause-exchanged
returns-clause-exchanged g c =
    let last : c.loop-failed.failed ≡ c.args.tries = let low = c.loop-failed-test.false in let high = c.loop-failed.auto.failed-end in omega arith in
    let old = c.loop-failed.invariant.3 in
    omega (arith, last, old)
