use Rattle.std.proofs.Common.{◌≡◌, ℕ, ◌≤◌, ◌+◌, ◌==◌, ◌∙◌, refl, subst, arith}
use Rattle.sf_group_steps.specs.Attempts.{Trying}
use Rattle.sf_group_steps.proofs.Trying.{trying_none, trying_more, tried_now, tried_all}
use Rattle.sf_group_steps.proofs.Exchanging.{tried_so}
use Rattle.sf_group_steps.proofs.asking.ask_often.Goals as goal
use Rattle.sf_words.specs.declared.limits.TheConstants.{LARGEST_GENERATION}

pub loop-failed-init : goal.loop-failed-init
loop-failed-init g c =
    let high : c.args.generation ≤ LARGEST_GENERATION = let fits = c.ranges.generation.fits in omega arith in
    (refl, refl, trying_none c.args.actor.sizes c.args.actor.number c.args.generation c.args.actor.place c.args.tries c.args.seat.now.me.0 c.requires.free c.requires.generation.1 high, omega arith)

pub returns-in_default : goal.returns-in_default
returns-in_default g c =
    let was = c.loop-failed.invariant in
    let own = c.ask_once-attempt.ensures.own in
    record {
      own = (own.0 ∙ was.0, own.1 ∙ was.1);
      tried = tried_now c.args.actor.sizes c.args.actor.number c.args.generation c.args.actor.place c.args.tries c.loop-failed.failed c.args.seat.now.me.0 c.loop-failed.seat.me.0 c.ask_once-attempt.new.seat.me.0 (c.loop-failed.failed + 1 == c.args.tries) c.ask_once-attempt.result
          c.in_default.not-Lost was.2 c.ask_once-attempt.ensures.attempted;
      exchanged = let few : c.loop-failed.failed + 1 ≤ c.args.tries = let low = c.loop-failed-test.true in omega arith in
          tried_so c.args.actor.sizes c.args.actor.number c.args.tries c.loop-failed.failed c.args.seat.now.me.0 c.loop-failed.seat.me.0 c.ask_once-attempt.new.seat.me.0 c.ask_once-attempt.result c.in_default.not-Lost few was.3 c.ask_once-attempt.ensures.exchanged;
    }

pub loop-failed-preserved : goal.loop-failed-preserved
loop-failed-preserved g c =
    let was = c.loop-failed.invariant in
    let own = c.ask_once-attempt.ensures.own in
    (own.0 ∙ was.0, own.1 ∙ was.1, trying_more c.args.actor.sizes c.args.actor.number c.args.actor.place c.args.tries c.loop-failed.failed c.args.seat.now.me.0 c.loop-failed.seat.me.0 c.ask_once-attempt.new.seat.me.0 was.2 c.in-Lost.ensures.attempted, let old = was.3 in let one = c.ask_once-attempt.ensures.exchanged in omega (arith, old, one))

pub returns-clause-tried : goal.returns-clause-tried
returns-clause-tried g c =
    let was = c.loop-failed.invariant in
    let last : c.loop-failed.failed ≡ c.args.tries = let low = c.loop-failed-test.false in let high = c.loop-failed.auto.failed-end in omega arith in
    tried_all c.args.actor.sizes c.args.actor.number c.args.generation c.args.actor.place c.args.tries c.args.seat.now.me.0 c.loop-failed.seat.me.0
    (subst (λ (n : ℕ). Trying c.args.actor.sizes c.args.actor.number c.args.actor.place c.args.tries n c.args.seat.now.me.0 c.loop-failed.seat.me.0) last was.2)

pub returns-clause-exchanged : goal.returns-clause-exchanged
returns-clause-exchanged g c =
    let last : c.loop-failed.failed ≡ c.args.tries = let low = c.loop-failed-test.false in let high = c.loop-failed.auto.failed-end in omega arith in
    let old = c.loop-failed.invariant.3 in
    omega (arith, last, old)
