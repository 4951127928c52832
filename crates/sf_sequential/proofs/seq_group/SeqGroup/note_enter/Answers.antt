-- a member that enters is noted
use Rattle.sf_sequential.specs.NotedMaps.{noted_in}
use Rattle.sf_sequential.proofs.Told.{room_of, few_of, next_untaken, told_enter}
use Rattle.sf_sequential.proofs.seq_group.SeqGroup.note_enter.Goals as goal

pub note_enter-requires-clause-room : goal.note_enter-requires-clause-room
note_enter-requires-clause-room g c =
    let told = rw c.in-Some.is at c.requires.told in
    room_of g.K.PartialEq.eq c.args.self.now (noted_in g.K.Ord.cmp c.in-Some.maps) c.kept.ensures told

pub note_enter-requires-clause-joiners : goal.note_enter-requires-clause-joiners
note_enter-requires-clause-joiners g c =
    let told = rw c.in-Some.is at c.requires.told in
    few_of g.K.PartialEq.eq c.args.self.now (noted_in g.K.Ord.cmp c.in-Some.maps) c.kept.ensures told

pub returns-in-Ok : goal.returns-in-Ok
returns-in-Ok g c =
    let told = rw c.in-Some.is at c.requires.told in
    let left = next_untaken g.K.PartialEq.eq c.args.self.now c.args.member.caller c.args.member c.kept.ensures c.requires.member in
    told_enter g.K.PartialEq.eq c.args.self.now (noted_in g.K.Ord.cmp c.in-Some.maps) (noted_in g.K.Ord.cmp c.note_enter.new.self) c.args.by c.args.key.now c.args.call c.args.member told left c.in-Ok.ensures
