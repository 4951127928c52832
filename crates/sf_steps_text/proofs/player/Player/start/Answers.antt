use Rattle.std.proofs.Common.{map, sym, ◌∙◌}
use Rattle.std.proofs.lemmas.Bool.{true≢false}
use Rattle.std.proofs.lemmas.List.{append-nil}
use Rattle.sf_steps_laws.specs.declared.turn.Turn.TheVariants as turn
use Rattle.sf_steps_text.specs.Played.{shown}
use Rattle.sf_steps_text.proofs.AfterTurns.{refuse, go_on, same_setting}
use Rattle.sf_steps_text.proofs.player.Player.start.Goals as goal
use Rattle.sf_steps_text.proofs.player.Player.start.Goals.{then-not-may_start-via-then-not-may_start, then-not-may_start-via-else-not-may_start+then-not-asks_of_led}

pub returns-then-not-may_start : goal.returns-then-not-may_start
returns-then-not-may_start c = record {
  turn = λ ts is. refuse c.args.self.now ts (turn.Start c.args.caller c.args.op) is (λ allowed.
      elim c.then-not-may_start.branch [
        | then-not-may_start-via-then-not-may_start w ↦ true≢false (sym (c.may_start.ensures.1 (allowed.0, allowed.1)) ∙ w.if-not-may_start.true)
        | then-not-may_start-via-else-not-may_start+then-not-asks_of_led w ↦ true≢false (sym ((w.asks_of_led.ensures ts is).1 allowed.2) ∙ w.if-not-asks_of_led.true)
      ]);
}

pub returns : goal.returns
returns c = record {
  turn = λ ts is.
      let allowed = c.may_start.ensures.0 c.if-not-may_start.false in
      let led = (c.asks_of_led.ensures ts is).0 c.if-not-asks_of_led.false in
      go_on c.args.self.now (record { world = c.start.new.self; steps = c.args.self.now.steps }) ts (turn.Start c.args.caller c.args.op) is (allowed.0, allowed.1, led) c.start.ensures.world
      (same_setting c.args.self.now.world.callers c.start.new.self.callers c.args.self.now.world.places c.start.new.self.places c.start.ensures.sizes.0 c.start.ensures.sizes.1)
      (sym (append-nil (map shown c.args.self.now.steps.items)));
}
