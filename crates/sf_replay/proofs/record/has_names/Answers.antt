use Rattle.sf_replay.proofs.Records.{names_counted}
use Rattle.sf_replay.proofs.record.has_names.Goals as goal

pub returns-in-Some : goal.returns-in-Some
returns-in-Some c = names_counted _ c.in-Some.names.now.entries c.args.n c.len.result c.in-Some.ensures c.len.ensures.len
