use Rattle.std.proofs.Common.{ℕ, Bool, List, [], ◌++◌, Bor, inl, inr, refl, subst, slice_index_or}
use Rattle.std.specs.Bool.{MatchBool}
use Rattle.sf_text.specs.Words.{words}
use Rattle.sf_steps_laws.specs.Schedules.{IsSchedule}
use Rattle.sf_steps_text.specs.Played.{text_setting}
use Rattle.sf_steps_text.specs.PlayerState.{IsAfter}
use Rattle.sf_steps_text.specs.ScheduleText.{turns_of}
use Rattle.sf_steps_text.proofs.AfterTurns.{trace_legal}
use Rattle.sf_steps_text.proofs.Lines.{line_obeyed, line_refused, said_line, no_line}
use Rattle.sf_steps_text.proofs.schedule.play_lines.Goals as goal

abbrev nothing : Bor (List ℕ)
nothing = record { ref_ptr = (0, 0); now = [] }

pub loop-i-init : goal.loop-i-init
loop-i-init c = ([], record { said = []; spelled = tt; turns = refl; allowed = c.in_ok-player.ensures.allowed }, c.in_ok-player.ensures)

pub loop-i-preserved : goal.loop-i-preserved
loop-i-preserved c =
    let ws = words (slice_index_or c.args.lines.now c.loop-i.i nothing).now in
    let one = said_line ws c.in_ok-said.field-0 c.in-Some.said c.in_ok-said.ensures c.in-Some.is in
    let ts = c.loop-i.invariant.0 in
    let after = subst (λ (b : Bool). MatchBool b (IsAfter c.obey.new.self (ts ++ turns_of c.in-Some.said)) (IsSchedule text_setting (ts ++ turns_of c.in-Some.said) → ⊥)) c.if-not-branch.false (c.in_ok-obey.ensures.turns ts c.loop-i.invariant.2) in
    line_obeyed (λ (x : Bor (List ℕ)). x.now) c.args.lines.now c.loop-i.i nothing c.obey.new.self ts c.in-Some.said c.loop-i-test.true c.loop-i.invariant.1 one after

pub returns-in_default-clause-refused : goal.returns-in_default-clause-refused
returns-in_default-clause-refused c =
    let ws = words (slice_index_or c.args.lines.now c.loop-i.i nothing).now in
    line_refused (λ (x : Bor (List ℕ)). x.now) c.args.lines.now c.loop-i.i nothing c.loop-i.invariant.0 c.loop-i-test.true c.loop-i.invariant.1 (inl (no_line ws c.in_ok-said.field-0 c.in_ok-said.ensures c.in_default.not-Some))

pub returns-then-not-branch-clause-refused : goal.returns-then-not-branch-clause-refused
returns-then-not-branch-clause-refused c =
    let ws = words (slice_index_or c.args.lines.now c.loop-i.i nothing).now in
    let one = said_line ws c.in_ok-said.field-0 c.in-Some.said c.in_ok-said.ensures c.in-Some.is in
    let ts = c.loop-i.invariant.0 in
    let isnt = subst (λ (b : Bool). MatchBool b (IsAfter c.obey.new.self (ts ++ turns_of c.in-Some.said)) (IsSchedule text_setting (ts ++ turns_of c.in-Some.said) → ⊥)) c.if-not-branch.true (c.in_ok-obey.ensures.turns ts c.loop-i.invariant.2) in
    line_refused (λ (x : Bor (List ℕ)). x.now) c.args.lines.now c.loop-i.i nothing ts c.loop-i-test.true c.loop-i.invariant.1 (inr (c.in-Some.said, one, isnt))

pub returns-clause-legal : goal.returns-clause-legal
returns-clause-legal c = trace_legal c.loop-i.player c.loop-i.invariant.0 c.loop-i.invariant.2
