use Rattle.std.proofs.Common.{rules, suc, ◌∙◌, subst}
use Rattle.sf_group_rows.specs.Begins.{HasJoined, HasLed}
use Rattle.sf_fill_keys.specs.Spaces.{SpaceId}
use Rattle.sf_fill_keys.specs.Spots.{IsInSpace, IsOther, spot_place}
use Rattle.sf_fill_store.proofs.Asks.{led_counts, missed_again}
use Rattle.sf_fill_store.proofs.LogSteps.{logs_join, logs_lead, logs_on}
use Rattle.sf_fill_store.proofs.store.Store.ask.Goals as goal

pub returns-in-Ok-Lead-clause-found : goal.returns-in-Ok-Lead-clause-found
returns-in-Ok-Lead-clause-found g c =
    let i = c.loop.invariant in
    (i.5.0, c.loop.asking, i.5.1, record { flight = c.in-Ok-Lead.flight; led = search rules; run = search rules })

pub returns-in-Ok-Lead-clause-one : goal.returns-in-Ok-Lead-clause-one
returns-in-Ok-Lead-clause-one g c = led_counts c.lead-finished.result.0 c.lead-finished.result.1 c.lead-finished.ensures.one

pub loop-preserved : goal.loop-preserved
loop-preserved g c =
    let i = c.loop.invariant in
    let letter = c.wait-caller.result.1 in
    let joined : HasJoined c.loop.asking (spot_place c.args.spot) c.in-Ok-Join.ticket = search rules in
    let within : IsInSpace g.D.Naming.space letter.value.spot = search rules in
    let other : IsOther letter.value.spot c.args.key.now = search rules in (
      tt,
      tt,
      c.wait-caller.ensures.group ∙ (joined.group ∙ i.2),
      i.3,
      i.4,
      (
        suc i.5.0,
        missed_again g.N.Naming.space c.args.key.now (spot_place c.args.spot) i.5.0 c.args.caller c.loop.asking c.wait-caller.result.0 c.in-Ok-Join.ticket letter i.5.1 joined c.wait-caller.ensures
            (subst (λ (s : SpaceId). IsInSpace s letter.value.spot) c.self.invariant.2 within) other,
      ),
      c.wait-caller.ensures.number ∙ (joined.number ∙ i.6),
      logs_on c.args.caller.number c.loop.asking.number c.args.caller.seen c.loop.asking.seen c.wait-caller.result.0.seen c.args.log.now c.loop.log c.add_enter.new.self i.6 i.7
          (logs_join c.loop.asking c.wait-caller.result.0 (spot_place c.args.spot) _ _ _ _ c.in-Ok-Join.ticket letter c.loop.log c.add_enter.new.self c.add_enter.ensures joined c.wait-caller.ensures
          (search rules) (search rules) (search rules) (search rules)),
      i.8,
    )

pub returns-in-Ok-Lead-clause-logged : goal.returns-in-Ok-Lead-clause-logged
returns-in-Ok-Lead-clause-logged g c =
    let i = c.loop.invariant in
    let flight = c.in-Ok-Lead.flight in
    let led : HasLed c.loop.asking (spot_place c.args.spot) flight = search rules in
    logs_on c.args.caller.number flight.number c.args.caller.seen flight.seen _ c.args.log.now c.add_lead.new.self c.lead-finished.new.log (led.number ∙ i.6)
    (logs_on c.args.caller.number c.loop.asking.number c.args.caller.seen c.loop.asking.seen flight.seen c.args.log.now c.loop.log c.add_lead.new.self i.6 i.7
    (logs_lead c.loop.asking (spot_place c.args.spot) _ _ _ flight c.loop.log c.add_lead.new.self c.add_lead.ensures led (search rules) (search rules) (search rules)))
    c.lead-finished.ensures.logged

pub returns-then-is_of-clause-logged : goal.returns-then-is_of-clause-logged
returns-then-is_of-clause-logged g c =
    let i = c.loop.invariant in
    let joined : HasJoined c.loop.asking (spot_place c.args.spot) c.in-Ok-Join.ticket = search rules in
    logs_on c.args.caller.number c.loop.asking.number c.args.caller.seen c.loop.asking.seen c.wait-caller.result.0.seen c.args.log.now c.loop.log c.add_enter.new.self i.6 i.7
    (logs_join c.loop.asking c.wait-caller.result.0 (spot_place c.args.spot) _ _ _ _ c.in-Ok-Join.ticket c.wait-caller.result.1 c.loop.log c.add_enter.new.self c.add_enter.ensures joined c.wait-caller.ensures
    (search rules) (search rules) (search rules) (search rules))
