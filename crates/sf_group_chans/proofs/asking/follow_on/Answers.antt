use Rattle.std.proofs.Common.{◌≡◌, ◌∙◌, sym, Some}
use Rattle.sf_words.specs.declared.call_word.CallState.TheVariants.{Open}
use Rattle.sf_steps_laws.specs.World.{open_in, is_forgot_in}
use Rattle.sf_steps_laws.specs.declared.operation.Stage.TheVariants.{Asking, Seconding}
use Rattle.sf_steps_laws.specs.Askings.{peeked}
use Rattle.sf_steps_laws.proofs.Compared.{open_in_is}
use Rattle.sf_group_chans.proofs.Trying.{led_later, joined_later}
use Rattle.sf_group_chans.proofs.asking.follow_on.Goals as goal

pub returns-in-Some-clause-attempted : goal.returns-in-Some-clause-attempted
returns-in-Some-clause-attempted g c =
    let a = c.args.askers in
    let called = c.args.called in
    let x = c.peek-word.result in
    let open_is : x ≡ Open c.in-Some.leader = (open_in_is called.generation x c.in-Some.leader (sym c.opened.ensures ∙ c.in-Some.is)).0 in
    joined_later a called c.args.last (Open c.in-Some.leader) c.args.seat.now.me.0 c.peek-word.new.seat.me.0 c.join_on.new.seat.me.0
    (Asking a.place (Some a.second) (peeked (Some a.second) called (is_forgot_in called.generation x) (open_in called.generation x))) (Seconding a.number) c.join_on.result
    c.peek-word.ensures.told (c.peek-word.ensures.shown ∙ open_is) c.join_on.ensures.joined

pub returns-in-None-clause-attempted : goal.returns-in-None-clause-attempted
returns-in-None-clause-attempted g c =
    let a = c.args.askers in
    let called = c.args.called in
    let x = c.peek-word.result in
    led_later a c.args.last c.args.seen c.args.seat.now.me.0 c.peek-word.new.seat.me.0 c.lead_on.new.seat.me.0
    (Asking a.place (Some a.second) (peeked (Some a.second) called (is_forgot_in called.generation x) (open_in called.generation x))) (Seconding a.number) c.lead_on.result
    c.requires.shown c.peek-word.ensures.told c.lead_on.ensures.led
