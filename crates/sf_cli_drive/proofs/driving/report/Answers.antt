use Rattle.sf_cli_drive.proofs.Erased.{found_by}
use Rattle.sf_cli_drive.proofs.driving.report.Goals as goal

pub returns : goal.returns
returns g c = found_by c.args.line _ c.in_ok-with_team.field-0 c.in_ok-with_team.ensures
