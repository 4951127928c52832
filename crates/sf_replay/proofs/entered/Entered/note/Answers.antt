use Rattle.sf_replay.proofs.Counts.{counted_more}
use Rattle.sf_replay.proofs.entered.Entered.note.Goals as goal

pub returns-in_ok-insert-in-Enter : goal.returns-in_ok-insert-in-Enter
returns-in_ok-insert-in-Enter c =
    λ first. rw c.in-Enter.is
    (counted_more c.args.self.now.counts c.insert.new.self c.in-Enter.call c.count-count.result c.count-count.ensures c.in_ok-insert-in-Enter.ensures.updates)
