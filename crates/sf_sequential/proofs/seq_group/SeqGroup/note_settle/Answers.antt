-- a settle is noted
use Rattle.std.proofs.Common.{◌∙◌, ap, length}
use Rattle.sf_sequential.specs.NotedMaps.{noted_in}
use Rattle.sf_sequential.proofs.Told.{told_settle}
use Rattle.sf_sequential.proofs.seq_group.SeqGroup.note_settle.Goals as goal

pub returns-in-Ok : goal.returns-in-Ok
returns-in-Ok g c =
    let told = rw c.in-Some.is at c.requires.told in
    told_settle g.K.PartialEq.eq c.args.self.now (noted_in g.K.Ord.cmp c.in-Some.maps) (noted_in g.K.Ord.cmp c.note_settle.new.self) c.args.caller c.args.call c.args.value.now c.args.joiners c.len.result
    c.kept.ensures told c.requires.led (c.len.ensures ∙ ap length c.history.ensures.history) c.in-Ok.ensures
