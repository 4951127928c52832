use Rattle.std.proofs.Common.{◌≡◌, ◌/◌, ◌%◌, None, subst}
use Rattle.std.specs.Prelude.{nat_eq}
use Rattle.sf_history.specs.History.{open_call}
use Rattle.sf_keyed_words.specs.Rule.{number}
use Rattle.sf_keyed.specs.Calls.{Closes, Sees}
use Rattle.sf_keyed_chain.specs.Chains.{IsEndedBefore}
use Rattle.sf_keyed_chain.specs.Went.{HasEnded, HasShut}
use Rattle.sf_keyed_chain.proofs.Sights.{all_both, heard_on, seen_called}
use Rattle.sf_keyed_chain.proofs.Ends.{all_gone_from, busy_from, closed_from, ended_next, idle_from}
use Rattle.sf_keyed_chain.proofs.chain.KeyedChain.forget.Goals as goal

pub returns-in-Closed-clause-forgotten : goal.returns-in-Closed-clause-forgotten
returns-in-Closed-clause-forgotten c =
    let k = number c.args.name in
    let xs = c.args.me.now in
    let ys = c.loop-at.me in
    let zs = c.shut.new.me in
    let shut = subst (HasShut k c.loop-at.at c.args.tries ys zs) c.in-Closed.is c.shut.ensures.shut in
    let ended = subst (HasEnded k c.loop-at.at ys zs) c.in-Closed.is c.shut.ensures.ended in (
      closed_from k c.loop-at.at c.in-Closed.call xs ys zs c.loop-at.invariant.1 shut,
      ended_next k c.loop-at.at xs ys zs c.loop-at.invariant.1 (seen_called (λ b a. Closes b a k c.in-Closed.call) c.loop-at.at ys zs shut.closed) c.loop-at.invariant.4 ended,
    )

pub returns-in-Nothing-clause-forgotten : goal.returns-in-Nothing-clause-forgotten
returns-in-Nothing-clause-forgotten c =
    let k = number c.args.name in
    let xs = c.args.me.now in
    let ys = c.loop-at.me in
    let zs = c.shut.new.me in
    let shut = subst (HasShut k c.loop-at.at c.args.tries ys zs) c.in-Nothing.is c.shut.ensures.shut in
    let ended = subst (HasEnded k c.loop-at.at ys zs) c.in-Nothing.is c.shut.ensures.ended in (
      idle_from k c.loop-at.at xs ys zs c.loop-at.invariant.1 shut,
      ended_next k c.loop-at.at xs ys zs c.loop-at.invariant.1 (seen_called (λ b a. Sees b a × (open_call nat_eq a.seen k ≡ None) × (a.met.top / 2 % 2 ≡ 0) × (a.spare ≡ b.spare)) c.loop-at.at ys zs shut.idle) c.loop-at.invariant.4 ended,
    )

pub returns-in-Busy-clause-forgotten : goal.returns-in-Busy-clause-forgotten
returns-in-Busy-clause-forgotten c = (
  c.loop-at.at,
  busy_from c.args.tries c.loop-at.at c.args.me.now c.loop-at.me c.shut.new.me c.loop-at.invariant.1
      (subst (HasShut (number c.args.name) c.loop-at.at c.args.tries c.loop-at.me c.shut.new.me) c.in-Busy.is c.shut.ensures.shut),
)

pub returns-in-Behind-clause-forgotten : goal.returns-in-Behind-clause-forgotten
returns-in-Behind-clause-forgotten c =
    let k = number c.args.name in
    let xs = c.args.me.now in
    let ys = c.loop-at.me in
    let zs = c.shut.new.me in
    let shut = subst (HasShut k c.loop-at.at c.args.tries ys zs) c.in-Behind.is c.shut.ensures.shut in
    let ended = subst (HasEnded k c.loop-at.at ys zs) c.in-Behind.is c.shut.ensures.ended in (
      all_gone_from k xs ys zs c.loop-at.invariant.1 shut.0,
      subst (λ n. IsEndedBefore k n xs zs) shut.1 (ended_next k c.loop-at.at xs ys zs c.loop-at.invariant.1 (heard_on ys zs shut.0.heard) c.loop-at.invariant.4 ended),
    )

pub loop-at-preserved : goal.loop-at-preserved
loop-at-preserved c =
    let k = number c.args.name in
    let xs = c.args.me.now in
    let ys = c.loop-at.me in
    let zs = c.shut.new.me in
    let on = subst (HasShut k c.loop-at.at c.args.tries ys zs) c.in-On.is c.shut.ensures.shut in
    let ended = subst (HasEnded k c.loop-at.at ys zs) c.in-On.is c.shut.ensures.ended in (
      c.shut.ensures.of,
      all_both xs ys zs c.loop-at.invariant.1 on.heard,
      on.within,
      on.gone,
      ended_next k c.loop-at.at xs ys zs c.loop-at.invariant.1 (heard_on ys zs on.heard) c.loop-at.invariant.4 ended,
    )
