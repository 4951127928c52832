use Rattle.std.proofs.Common.{map, sym, ◌∙◌}
use Rattle.std.proofs.lemmas.Bool.{true≢false}
use Rattle.std.proofs.lemmas.List.{append-nil}
use Rattle.sf_steps_laws.specs.declared.turn.Turn.TheVariants as turn
use Rattle.sf_steps_text.specs.Played.{shown}
use Rattle.sf_steps_text.proofs.AfterTurns.{refuse, go_on, same_setting}
use Rattle.sf_steps_text.proofs.player.Player.leave.Goals as goal

pub returns-then-not-may_leave : goal.returns-then-not-may_leave
returns-then-not-may_leave c = record {
  turn = λ ts is. refuse c.args.self.now ts (turn.Leave c.args.caller) is (λ allowed.
      true≢false (sym (c.may_leave.ensures.1 (allowed.0, allowed.1)) ∙ c.if-not-may_leave.true));
}

pub returns : goal.returns
returns c = record {
  turn = λ ts is.
      let allowed = c.may_leave.ensures.0 c.if-not-may_leave.false in
      go_on c.args.self.now (record { world = c.leave.new.self; steps = c.args.self.now.steps }) ts (turn.Leave c.args.caller) is (allowed.0, allowed.1) c.leave.ensures.world
      (same_setting c.args.self.now.world.callers c.leave.new.self.callers c.args.self.now.world.places c.leave.new.self.places c.leave.ensures.sizes.0 c.leave.ensures.sizes.1)
      (sym (append-nil (map shown c.args.self.now.steps.items)));
}
