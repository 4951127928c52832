-- as many times as events
use Rattle.std.proofs.Common.{◌≡◌, length}
use Rattle.sf_verdicts.proofs.keys.part.Given as goal

abbrev pub invariant-loop-place : goal.invariant-loop-place
invariant-loop-place l = length l.own_times.items ≡ length l.own.items
