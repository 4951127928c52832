-- the keys so far
use Rattle.sf_cli_drive.specs.Jobs.{AreEntries}
use Rattle.sf_cli_drive.proofs.driving.entries.Given as goal

abbrev pub invariant-loop-number : goal.invariant-loop-number
invariant-loop-number l = AreEntries l.number-counter l.entries.items
