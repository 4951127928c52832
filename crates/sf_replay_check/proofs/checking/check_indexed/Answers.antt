use Rattle.std.proofs.Common.{◌+◌, ◌∙◌, subst, take, arith}
use Rattle.std.proofs.lemmas.List.{length-take-le}
use Rattle.sf_replay_check.specs.Checker.{IsFirstFault}
use Rattle.sf_replay_check.specs.IndexMaps.{noted_in}
use Rattle.sf_replay_check.proofs.Verdicts.{fault_here, legal_verdict}
use Rattle.sf_replay_check.proofs.Noting.{joiners_few, same_cause, nothing_noted, noted_more}
use Rattle.sf_replay_check.proofs.checking.check_indexed.Goals as goal

pub loop-i-init : goal.loop-i-init
loop-i-init g c = nothing_noted g.K.PartialEq.eq (noted_in g.K.Ord.cmp c.new-index.result) c.new-index.ensures.row c.new-index.ensures.current

pub returns-in-Some-clause-verdict : goal.returns-in-Some-clause-verdict
returns-in-Some-clause-verdict g c =
    let h = c.events-events.result.now in
    let noted = noted_in g.K.Ord.cmp c.loop-i.index in
    let found = c.in-Some.ensures ∙ same_cause g.K.PartialEq.eq g.met.K.Eq.laws (take c.loop-i.i h) noted c.index-events-i.result c.loop-i.invariant in
    let fault = fault_here g.K.PartialEq.eq h c.loop-i.i c.index-events-i.result c.in-Some.cause c.loop-i-test.true c.index-events-i.is c.loop-i.invariant.legal found in
    subst (λ h. IsFirstFault g.K.PartialEq.eq h (c.loop-i.i + 1) c.in-Some.cause) c.events-events.ensures fault

pub returns-in-Some-clause-legal : goal.returns-in-Some-clause-legal
returns-in-Some-clause-legal g c = legal_verdict g.K.PartialEq.eq c.args.history.now _ (returns-in-Some-clause-verdict g c)

pub note-requires : goal.note-requires
note-requires g c =
    let h = c.events-events.result.now in
    let few = joiners_few g.K.PartialEq.eq (take c.loop-i.i h) (noted_in g.K.Ord.cmp c.loop-i.index) c.loop-i.invariant in
    let noted = length-take-le c.loop-i.i h (omega (arith, c.loop-i-test.true)) in
    record { room = λ id. omega (arith, few id, noted, c.loop-i-test.true) }

pub loop-i-preserved : goal.loop-i-preserved
loop-i-preserved g c =
    noted_more g.K.PartialEq.eq g.met.K.Eq.laws c.events-events.result.now c.loop-i.i c.index-events-i.result (noted_in g.K.Ord.cmp c.loop-i.index) (noted_in g.K.Ord.cmp c.note.new.self) c.loop-i-test.true c.index-events-i.is
    c.loop-i.invariant c.in_default.ensures c.in_ok-note.ensures.row c.in_ok-note.ensures.current
