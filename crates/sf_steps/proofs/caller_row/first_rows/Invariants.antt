use Rattle.std.proofs.Common.{◌≡◌, replicate}
use Rattle.sf_steps.specs.Rows.{first_row}
use Rattle.sf_steps.proofs.caller_row.first_rows.Given as goal

abbrev pub invariant-loop-i : goal.invariant-loop-i
invariant-loop-i g l = l.rows.items ≡ replicate l._i first_row
