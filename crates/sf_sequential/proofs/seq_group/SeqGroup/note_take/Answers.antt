-- a letter that is taken is noted
use Rattle.sf_sequential.specs.NotedMaps.{noted_in}
use Rattle.sf_sequential.proofs.Told.{told_take}
use Rattle.sf_sequential.proofs.seq_group.SeqGroup.note_take.Goals as goal

pub returns-in-Ok : goal.returns-in-Ok
returns-in-Ok g c =
    let told = rw c.in-Some.is at c.requires.told in
    told_take g.K.PartialEq.eq c.args.self.now (noted_in g.K.Ord.cmp c.in-Some.maps) (noted_in g.K.Ord.cmp c.note_take.new.self) c.args.caller c.args.ticket told c.requires.held c.in-Ok.ensures
