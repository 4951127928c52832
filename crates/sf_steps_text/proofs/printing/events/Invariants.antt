use Rattle.std.proofs.Common.{◌≡◌, ◌++◌, drop, string_bytes}
use Rattle.sf_steps_text.specs.TraceText.{events_text}
use Rattle.sf_steps_text.proofs.printing.events.Given as goal

abbrev pub invariant-loop-one : goal.invariant-loop-one
invariant-loop-one l = string_bytes l.lines ++ events_text (drop l.one-index l.added) ≡ events_text l.added
