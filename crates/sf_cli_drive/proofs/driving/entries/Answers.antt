use Rattle.std.proofs.Common.{rules}
use Rattle.sf_cli_drive.proofs.Numbered.{entries_push}
use Rattle.sf_cli_drive.proofs.driving.entries.Goals as goal

pub loop-number-preserved : goal.loop-number-preserved
loop-number-preserved c = entries_push _ _ _ _ c.loop-number.invariant c.in_ok-push.ensures.items (record { key = search rules; value = search rules })
