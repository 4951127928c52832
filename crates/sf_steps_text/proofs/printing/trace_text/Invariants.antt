use Rattle.std.proofs.Common.{◌≡◌, ◌++◌, drop, string_bytes}
use Rattle.sf_steps_text.specs.TraceText as texts
use Rattle.sf_steps_text.proofs.printing.trace_text.Given as goal

abbrev pub invariant-loop-step : goal.invariant-loop-step
invariant-loop-step l = string_bytes l.lines ++ texts.trace_text (drop l.step-index l.steps) ≡ texts.trace_text l.steps
