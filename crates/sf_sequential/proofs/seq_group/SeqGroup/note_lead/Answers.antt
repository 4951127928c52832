-- a new call is noted
use Rattle.std.proofs.Common.{ap}
use Rattle.sf_history.specs.declared.call.CallId.{CallId}
use Rattle.sf_sequential.specs.NotedMaps.{noted_in}
use Rattle.sf_sequential.proofs.Told.{room_of, own_untaken, told_lead}
use Rattle.sf_sequential.proofs.seq_group.SeqGroup.note_lead.Goals as goal

pub note_lead-requires : goal.note_lead-requires
note_lead-requires g c =
    let told = rw c.in-Some.is at c.requires.told in
    record { room = room_of g.K.PartialEq.eq c.args.self.now (noted_in g.K.Ord.cmp c.in-Some.maps) c.kept.ensures told }

pub returns-in-Ok : goal.returns-in-Ok
returns-in-Ok g c =
    let told = rw c.in-Some.is at c.requires.told in
    let left = own_untaken g.K.PartialEq.eq c.args.self.now c.args.own c.kept.ensures c.requires.own in
    told_lead g.K.PartialEq.eq c.args.self.now (noted_in g.K.Ord.cmp c.in-Some.maps) (noted_in g.K.Ord.cmp c.note_lead.new.self) c.args.caller c.args.key.now c.args.call c.args.own told
    (ap (λ (z : CallId). z.caller) c.requires.call) left c.in-Ok.ensures
