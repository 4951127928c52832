use Rattle.std.proofs.Common.{sym, ◌∙◌, subst}
use Rattle.sf_steps_text.proofs.AfterTurns.{led_after}
use Rattle.sf_steps_laws.specs.declared.operation.Op.{Op}
use Rattle.sf_steps_laws.specs.Schedules.{AsksOfLed}
use Rattle.sf_steps_laws.specs.Events.{events_of}
use Rattle.sf_steps_text.specs.TraceText.{Outcome}
use Rattle.sf_steps_text.proofs.player.Player.asks_of_led.Goals as goal

pub returns-in-Current : goal.returns-in-Current
returns-in-Current c = λ ts is.
    let found = c.was_led.ensures ∙ led_after c.args.self.now ts c.in-Current.place c.in-Current.call is in (
      λ yes_led. subst (λ (o : Op Outcome). AsksOfLed (events_of 64 1 ts) o) (sym c.in-Current.is) (sym found ∙ yes_led),
      λ asks. found ∙ subst (λ (o : Op Outcome). AsksOfLed (events_of 64 1 ts) o) c.in-Current.is asks,
    )
