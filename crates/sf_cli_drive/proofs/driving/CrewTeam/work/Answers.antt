use Rattle.std.proofs.Common.{ap, arith}
use Rattle.sf_cli_drive.proofs.Erased.{job_of}
use Rattle.sf_cli_drive.proofs.driving.CrewTeam.work.Goals as goal

pub returns : goal.returns
returns g c =
    let line = c.args.self.now.line in
    job_of g.N.Naming.space g.N.Naming.group line.keys line.gets c.args.index c.args.getter.now c.get_all.new.getter c.get_all.result c.requires.new
    (c.get_all.ensures.job (omega (arith, ap (λ t. t.gets) c.requires.new.counted, line.gets_in_range.1)))
