use Rattle.std.proofs.Common.{[], ◌∷◌, Option, None, sym, subst}
use Rattle.sf_history.specs.declared.call.CallId.{CallId}
use Rattle.sf_history.specs.declared.event.Event.TheVariants.{Lead}
use Rattle.sf_words.specs.KeyWord.{key_code}
use Rattle.sf_steps_laws.specs.declared.operation.Stage.TheVariants.{Asking, Leading}
use Rattle.sf_steps_laws.specs.declared.operation.AskStep.TheVariants as ask
use Rattle.sf_group_steps.specs.Words.{key}
use Rattle.sf_group_steps.specs.Attempts.{IsAfter, lost_stage}
use Rattle.sf_group_steps.proofs.Trying.{goes_after, loses_after}
use Rattle.sf_group_steps.proofs.asking.lead_on.Goals as goal

pub returns-then-lead-clause-led : goal.returns-then-lead-clause-led
returns-then-lead-clause-led g c =
    let k = c.args.actor.place in
    let won = c.lead.ensures.won c.if-lead.true in
    let e = Lead c.args.actor.number k (record { caller = c.args.actor.number; generation = c.args.generation }) None in (
      goes_after c.args.actor.sizes c.args.actor.number c.args.seat.now.me.0 c.ready.new.seat.me.0 c.lead.new.seat.me.0 (Asking k None (ask.Lead c.args.seen c.args.forgot)) (Leading k c.args.generation None) (Lead c.args.actor.number k (record { caller = c.args.actor.number; generation = c.args.generation }) None ∷ []) 1
          c.ready.ensures.told.goes won.0,
      subst (λ (o : Option CallId). IsAfter c.args.actor.sizes k c.lead.new.seat.me.0 e o) (sym c.current_before.ensures) won.1,
    )

pub returns-else-lead-clause-led : goal.returns-else-lead-clause-led
returns-else-lead-clause-led g c =
    let k = c.args.actor.place in
    loses_after c.args.actor.sizes c.args.actor.number (key_code c.args.seen) (key k) c.args.seat.now.me.0 c.ready.new.seat.me.0 c.lead.new.seat.me.0 (Asking k None (ask.Lead c.args.seen c.args.forgot)) (lost_stage k c.args.last) tt
    c.ready.ensures.told (c.lead.ensures.lost c.if-lead.false)
