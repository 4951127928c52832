use Rattle.std.proofs.Common.{[], ◌∷◌, Option, Some, sym, subst}
use Rattle.sf_history.specs.declared.call.CallId.{CallId}
use Rattle.sf_group_steps.specs.Attempts.{IsAfter}
use Rattle.sf_history.specs.declared.event.Event.TheVariants.{Lead}
use Rattle.sf_words.specs.KeyWord.{key_code}
use Rattle.sf_steps_laws.specs.declared.operation.Stage.TheVariants.{Asking, Seconding, Leading, Holding}
use Rattle.sf_steps_laws.specs.declared.operation.AskStep.TheVariants as ask
use Rattle.sf_group_steps.specs.Words.{key}
use Rattle.sf_group_chans.specs.Both.{call_of, member_of, lost_first, lost_second}
use Rattle.sf_group_chans.proofs.Trying.{go_after, stay_again, lose_after}
use Rattle.sf_group_chans.proofs.asking.lead_on.Goals as goal

pub returns-then-lead-clause-led : goal.returns-then-lead-clause-led
returns-then-lead-clause-led g c =
    let a = c.args.askers in
    let v = c.args.seat.now.me.0 in
    let w = c.ready.new.seat.me.0 in
    let both = stay_again a v c.ready_own.new.seat.me.0 w (Asking a.place (Some a.second) (ask.ReadyLead c.args.seen c.args.forgot)) (Seconding a.number) (Asking a.place (Some a.second) (ask.Lead c.args.seen c.args.forgot)) (Seconding a.number) c.ready_own.ensures.told c.ready.ensures.told in
    let won = c.lead.ensures.won c.if-lead.true in (
      go_after a v w c.lead.new.seat.me.0 (Asking a.place (Some a.second) (ask.Lead c.args.seen c.args.forgot)) (Seconding a.number) (Leading a.place a.generation (Some (member_of a))) (Holding a.place a.second_generation (call_of a)) (Lead a.number a.place (call_of a) (Some (member_of a)) ∷ []) [] 1 1
          both.goes won.0,
      subst (λ (o : Option CallId). IsAfter a.sizes a.place c.lead.new.seat.me.0 (Lead a.number a.place (call_of a) (Some (member_of a))) o) (sym c.current_before.ensures) won.1,
    )

pub returns-else-lead-clause-led : goal.returns-else-lead-clause-led
returns-else-lead-clause-led g c =
    let a = c.args.askers in
    let v = c.args.seat.now.me.0 in
    let w = c.ready.new.seat.me.0 in
    let both = stay_again a v c.ready_own.new.seat.me.0 w (Asking a.place (Some a.second) (ask.ReadyLead c.args.seen c.args.forgot)) (Seconding a.number) (Asking a.place (Some a.second) (ask.Lead c.args.seen c.args.forgot)) (Seconding a.number) c.ready_own.ensures.told c.ready.ensures.told in
    lose_after a (key_code c.args.seen) (key a.place) v w c.lead.new.seat.me.0 (Asking a.place (Some a.second) (ask.Lead c.args.seen c.args.forgot)) (Seconding a.number) (lost_first a c.args.last) (lost_second a c.args.last) tt tt both (c.lead.ensures.lost c.if-lead.false)
