use Rattle.sf_replay.proofs.RecordLaws.{failure_is_least_bad}
use Rattle.sf_replay.proofs.reading.failure_is_least_bad.Goals as goal

pub returns : goal.returns
returns c = failure_is_least_bad
