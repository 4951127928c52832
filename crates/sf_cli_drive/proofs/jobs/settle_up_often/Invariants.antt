-- nothing else has changed
use Rattle.std.specs.Prelude.{◌≡◌}
use Rattle.sf_cli_drive.specs.Jobs.{HasLoggedAll}
use Rattle.sf_cli_drive.proofs.jobs.settle_up_often.Given as goal

abbrev pub invariant-loop : goal.invariant-loop
invariant-loop g l = record {
  logs : HasLoggedAll l.fn.getter l.getter;
  rest : l.getter ≡ record l.fn.getter { standing = l.getter.standing; log = l.getter.log };
}
