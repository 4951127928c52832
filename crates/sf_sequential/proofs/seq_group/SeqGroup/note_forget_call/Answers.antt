-- a Forget of one call is noted
use Rattle.std.proofs.Common.{ap}
use Rattle.sf_history.specs.History.{has_ended}
use Rattle.sf_sequential.specs.NotedMaps.{noted_in}
use Rattle.sf_sequential.proofs.Told.{told_forget_ended, told_forget_missed}
use Rattle.sf_sequential.proofs.seq_group.SeqGroup.note_forget_call.Goals as goal

pub returns-in-Closed : goal.returns-in-Closed
returns-in-Closed g c =
    let told = rw c.in-Some.is at c.requires in
    told_forget_ended g.K.PartialEq.eq c.args.self.now (noted_in g.K.Ord.cmp c.in-Some.maps) (noted_in g.K.Ord.cmp c.note_end.new.self) c.args.caller c.args.key.now c.args.call c.args.hit told
    (ap has_ended c.in-Closed.is) c.note_end.ensures

pub returns-in-Cleared : goal.returns-in-Cleared
returns-in-Cleared g c =
    let told = rw c.in-Some.is at c.requires in
    told_forget_ended g.K.PartialEq.eq c.args.self.now (noted_in g.K.Ord.cmp c.in-Some.maps) (noted_in g.K.Ord.cmp c.note_end-in-Cleared.new.self) c.args.caller c.args.key.now c.args.call c.args.hit told
    (ap has_ended c.in-Cleared.is) c.note_end-in-Cleared.ensures

pub returns-in-Missed : goal.returns-in-Missed
returns-in-Missed g c =
    let told = rw c.in-Some.is at c.requires in
    told_forget_missed g.K.PartialEq.eq c.args.self.now (noted_in g.K.Ord.cmp c.in-Some.maps) c.args.caller c.args.key.now c.args.call c.args.hit told (ap has_ended c.in-Missed.is)
