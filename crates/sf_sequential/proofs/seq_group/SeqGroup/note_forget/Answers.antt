-- a Forget is noted
use Rattle.sf_sequential.specs.NotedMaps.{noted_in}
use Rattle.sf_sequential.proofs.Told.{told_forget}
use Rattle.sf_sequential.proofs.seq_group.SeqGroup.note_forget.Goals as goal

pub returns-in-Some : goal.returns-in-Some
returns-in-Some g c =
    let told = rw c.in-Some.is at c.requires in
    told_forget g.K.PartialEq.eq c.args.self.now (noted_in g.K.Ord.cmp c.in-Some.maps) (noted_in g.K.Ord.cmp c.note_end.new.self) c.args.caller c.args.key.now c.args.closed told c.note_end.ensures
