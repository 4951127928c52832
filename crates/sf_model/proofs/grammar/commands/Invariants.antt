-- each line so far is its command
use Rattle.std.proofs.Common.{map, take}
use Rattle.sf_model.specs.Reading.{AreRead}
use Rattle.sf_model.proofs.grammar.commands.Given as goal

abbrev pub invariant-loop-i : goal.invariant-loop-i
invariant-loop-i l = AreRead (map (λ x. x.now) (take l.i l.line-items)) l.commands.items
