-- a caller's generations fit
use Rattle.std.proofs.Common.{◌≤◌, ◌^◌, arith}
use Rattle.sf_sequential.specs.NotedMaps.{noted_in}
use Rattle.sf_sequential.proofs.Told.{room_of}
use Rattle.sf_sequential.proofs.seq_group.SeqGroup.next_by.Goals as goal

pub overflow_add-result : goal.overflow_add-result
overflow_add-result g c =
    let told = rw c.in-Some.is at c.requires in
    let room : c.caller.result.used ≤ 2 ^ 32 = rw c.caller.ensures (room_of g.K.PartialEq.eq c.args.self.now (noted_in g.K.Ord.cmp c.in-Some.maps) c.kept.ensures told c.args.caller) in
    omega (arith, c.from.ensures, c.first_generation.type_inv, room)
