use Rattle.std.proofs.Common.{Some}
use Rattle.sf_replay_check.specs.Index.{new_row}
use Rattle.sf_replay_check.proofs.Maps.{name_updated}
use Rattle.sf_replay_check.proofs.index.Index.note_name.Goals as goal

pub returns-clause-row : goal.returns-clause-row
returns-clause-row g c =
    name_updated c.args.self.now.rows c.insert.new.self c.args.id (Some (new_row c.args.led)) c.in_ok-insert.ensures.updates
