use Rattle.sf_replay.proofs.RecordLaws.{history_is_records}
use Rattle.sf_replay.proofs.reading.history_is_records.Goals as goal

pub returns : goal.returns
returns c = history_is_records
