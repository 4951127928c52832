use Rattle.std.proofs.Common.{◌+◌, Some, subst}
use Rattle.sf_sequential.specs.declared.rows.CallerRow.{CallerRow}
use Rattle.sf_sequential.specs.Noted.{IsCallerSet}
use Rattle.sf_sequential.specs.NotedMaps.{noted_in}
use Rattle.sf_sequential.proofs.Noting.{lead_noted}
use Rattle.sf_sequential.proofs.index.Maps.note_lead.Goals as goal

pub returns : goal.returns
returns g c =
    let before = noted_in g.K.Ord.cmp c.args.self.now in
    let led = noted_in g.K.Ord.cmp c.set_caller.new.self in
    let held = noted_in g.K.Ord.cmp c.hold_own.new.self in
    let first = subst (λ (r : CallerRow). IsCallerSet before led c.args.call.caller (record { led = Some c.args.call; held = r.held; used = r.used + 1 })) c.caller-row.ensures c.in_ok-set_caller.ensures in
    lead_noted g.K.PartialEq.eq before led held (noted_in g.K.Ord.cmp c.lead_key.new.self) c.args.key.now c.args.call c.args.own first c.in_ok-hold_own.ensures c.in_ok-lead_key.ensures
