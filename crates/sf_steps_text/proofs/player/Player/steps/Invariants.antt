use Rattle.std.proofs.Common.{List, ◌++◌, replicate}
use Rattle.sf_steps_laws.specs.declared.turn.Turn.{Turn}
use Rattle.sf_steps_laws.specs.declared.turn.Turn.TheVariants as turn
use Rattle.sf_steps_text.specs.PlayerState.{IsAfter}
use Rattle.sf_steps_text.specs.TraceText.{Outcome}
use Rattle.sf_steps_text.proofs.player.Player.steps.Given as goal

abbrev pub invariant-loop-i : goal.invariant-loop-i
invariant-loop-i l = (ts : List (Turn Outcome)) → IsAfter l.fn.self ts → IsAfter l.self (ts ++ replicate l._i (turn.Step l.caller))
