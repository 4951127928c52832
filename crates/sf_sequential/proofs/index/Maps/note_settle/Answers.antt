use Rattle.std.proofs.Common.{None, Some, subst}
use Rattle.sf_sequential.specs.declared.rows.CallerRow.{CallerRow}
use Rattle.sf_sequential.specs.declared.rows.CallRow.{CallRow}
use Rattle.sf_sequential.specs.Noted.{IsCallerSet, IsCallSet}
use Rattle.sf_sequential.specs.NotedMaps.{noted_in}
use Rattle.sf_sequential.proofs.Noting.{settle_noted}
use Rattle.sf_sequential.proofs.index.Maps.note_settle.Goals as goal

pub returns : goal.returns
returns g c =
    let before = noted_in g.K.Ord.cmp c.args.self.now in
    let unled = noted_in g.K.Ord.cmp c.set_caller.new.self in
    let after = noted_in g.K.Ord.cmp c.set_call.new.self in
    let first = subst (λ (r : CallerRow). IsCallerSet before unled c.args.caller (record { led = None; held = r.held; used = r.used })) c.caller-row.ensures c.in_ok-set_caller.ensures in
    let second = subst (λ (r : CallRow). IsCallSet unled after c.args.call (record { joiners = r.joiners; settled = Some c.args.place })) c.call-row.ensures c.in_ok-set_call.ensures in
    settle_noted before unled after c.args.caller c.args.call c.args.place first second
