use Rattle.std.proofs.Common.{List, map, take}
use Rattle.sf_steps_laws.specs.declared.turn.Turn.{Turn}
use Rattle.sf_steps_text.specs.Played.{IsScheduleText}
use Rattle.sf_steps_text.specs.PlayerState.{IsAfter}
use Rattle.sf_steps_text.specs.TraceText.{Outcome}
use Rattle.sf_steps_text.proofs.schedule.play_lines.Given as goal

abbrev pub invariant-loop-i : goal.invariant-loop-i
invariant-loop-i l = (ts : List (Turn Outcome)) × IsScheduleText (take l.i (map (λ x. x.now) l.lines)) ts × IsAfter l.player ts
