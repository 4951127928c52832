use Rattle.std.proofs.Common.{◌+◌, subst}
use Rattle.sf_sequential.specs.declared.rows.CallRow.{CallRow}
use Rattle.sf_sequential.specs.Noted.{IsCallSet}
use Rattle.sf_sequential.specs.NotedMaps.{noted_in}
use Rattle.sf_sequential.proofs.Noting.{held_noted, enter_noted}
use Rattle.sf_sequential.proofs.index.Maps.note_enter.Goals as goal

pub returns : goal.returns
returns g c =
    let before = noted_in g.K.Ord.cmp c.args.self.now in
    let held = noted_in g.K.Ord.cmp c.hold.new.self in
    let after = noted_in g.K.Ord.cmp c.set_call.new.self in
    let second = subst (λ (r : CallRow). IsCallSet held after c.args.call (record { joiners = r.joiners + 1; settled = r.settled })) c.call-row.ensures c.in_ok-set_call.ensures in
    enter_noted before held after c.args.call c.args.member (held_noted before held c.args.call c.args.member c.in_ok-hold.ensures) second
