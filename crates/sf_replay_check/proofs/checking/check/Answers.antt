use Rattle.std.proofs.Common.{◌+◌, subst}
use Rattle.sf_history.proofs.LegalHistories.{legal_nil}
use Rattle.sf_replay_check.specs.Checker.{IsFirstFault}
use Rattle.sf_replay_check.proofs.Verdicts.{legal_more, fault_here, legal_verdict}
use Rattle.sf_replay_check.proofs.checking.check.Goals as goal

pub loop-i-init : goal.loop-i-init
loop-i-init g c = legal_nil g.K.PartialEq.eq

pub returns-in-Some : goal.returns-in-Some
returns-in-Some g c =
    let fault = fault_here g.K.PartialEq.eq c.events-events.result.now c.loop-i.i c.index-events-i.result c.in-Some.cause c.loop-i-test.true c.index-events-i.is c.loop-i.invariant c.in-Some.ensures in
    let here = subst (λ h. IsFirstFault g.K.PartialEq.eq h (c.loop-i.i + 1) c.in-Some.cause) c.events-events.ensures fault in
    record { legal = legal_verdict g.K.PartialEq.eq c.args.history.now _ here; verdict = here }

pub loop-i-preserved : goal.loop-i-preserved
loop-i-preserved g c =
    legal_more g.K.PartialEq.eq c.events-events.result.now c.loop-i.i c.index-events-i.result c.loop-i-test.true c.index-events-i.is c.loop-i.invariant c.in_default.ensures
