use Rattle.std.proofs.Common.{Some}
use Rattle.sf_steps_laws.specs.declared.operation.Stage.TheVariants.{Asking, Seconding}
use Rattle.sf_steps_laws.specs.Askings.{looked}
use Rattle.sf_group_chans.proofs.Trying.{attempted_after, led_now}
use Rattle.sf_group_chans.proofs.asking.ask_once.Goals as goal

pub returns-in-Never-clause-attempted : goal.returns-in-Never-clause-attempted
returns-in-Never-clause-attempted g c =
    let a = c.args.askers in
    led_now a c.args.last c.look-seen.result c.args.seat.now.me.0 c.look-seen.new.seat.me.0 c.lead_on.new.seat.me.0 (Asking a.place (Some a.second) (looked (Some a.second) c.look-seen.result)) (Seconding a.number) c.lead_on.result
    c.look-seen.ensures.told c.look-seen.ensures.shown c.lead_on.ensures.led

pub returns-in-Names-default-default-true-clause-attempted : goal.returns-in-Names-default-default-true-clause-attempted
returns-in-Names-default-default-true-clause-attempted g c =
    let a = c.args.askers in
    led_now a c.args.last c.look-seen.result c.args.seat.now.me.0 c.look-seen.new.seat.me.0 c.lead_on-in-Names-default-default-true.new.seat.me.0 (Asking a.place (Some a.second) (looked (Some a.second) c.look-seen.result)) (Seconding a.number) c.lead_on-in-Names-default-default-true.result
    c.look-seen.ensures.told c.look-seen.ensures.shown c.lead_on-in-Names-default-default-true.ensures.led

pub returns-in-Names-default-default-false-clause-attempted : goal.returns-in-Names-default-default-false-clause-attempted
returns-in-Names-default-default-false-clause-attempted g c =
    let a = c.args.askers in
    attempted_after a c.args.last c.args.seat.now.me.0 c.look-seen.new.seat.me.0 c.follow_on.new.seat.me.0 (Asking a.place (Some a.second) (looked (Some a.second) c.look-seen.result)) (Seconding a.number) c.follow_on.result
    c.look-seen.ensures.told c.follow_on.ensures.attempted
