use Rattle.std.proofs.Common.{rules, ◌≡◌, List, [], ◌∷◌, ◌++◌, sym, ◌∙◌, ap}
use Rattle.std.proofs.lemmas.Bool.{true≢false}
use Rattle.sf_steps_laws.specs.declared.turn.Turn.TheVariants as turn
use Rattle.sf_steps.specs.declared.trace.Step.{Step}
use Rattle.sf_steps_text.specs.TraceText.{Outcome}
use Rattle.sf_steps.specs.Running.{world_of}
use Rattle.sf_steps_text.specs.Played.{shown, shown_step}
use Rattle.sf_steps_text.proofs.AfterTurns.{refuse, go_on, same_setting, same_shown, shows_push}
use Rattle.sf_steps_text.proofs.player.Player.step.Goals as goal

pub returns-then-not-may_step : goal.returns-then-not-may_step
returns-then-not-may_step c = record {
  turn = λ ts is. refuse c.args.self.now ts (turn.Step c.args.caller) is (λ allowed.
      true≢false (sym (c.may_step.ensures.1 (allowed.0, allowed.1)) ∙ c.if-not-may_step.true));
}

pub returns : goal.returns
returns c = record {
  turn = λ ts is.
      let allowed = c.may_step.ensures.0 c.if-not-may_step.false in
      let room : c.reserve.new.self.items ≡ c.args.self.now.steps.items = c.in_ok-reserve.ensures.items in
      let last : c.push.new.self.items ≡ c.reserve.new.self.items ++ c.in_ok-step.step ∷ [] = pushed c in
      let one : shown c.in_ok-step.step ≡ shown_step (world_of c.args.self.now.world) c.args.caller =
      same_shown c.in_ok-step.step (world_of c.args.self.now.world) c.args.caller c.in_ok-step.ensures.caller c.in_ok-step.ensures.act c.in_ok-step.ensures.events c.in_ok-step.ensures.answer in
      go_on c.args.self.now (record { world = c.step.new.self; steps = c.push.new.self }) ts (turn.Step c.args.caller) is (allowed.0, allowed.1) c.in_ok-step.ensures.world
      (same_setting c.args.self.now.world.callers c.step.new.self.callers c.args.self.now.world.places c.step.new.self.places c.in_ok-step.ensures.sizes.0 c.in_ok-step.ensures.sizes.1)
      (shows_push c.args.self.now.steps.items c.push.new.self.items c.in_ok-step.step (shown_step (world_of c.args.self.now.world) c.args.caller) (last ∙ ap (λ (xs : List (Step Outcome)). xs ++ c.in_ok-step.step ∷ []) room) one);
}
  where
    pushed : (c : goal.After-unwrap) → c.push.new.self.items ≡ c.reserve.new.self.items ++ c.in_ok-step.step ∷ []
    pushed c = search rules
