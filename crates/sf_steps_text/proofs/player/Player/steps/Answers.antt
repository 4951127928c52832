use Rattle.std.proofs.Common.{◌++◌, [], ◌∷◌, Bool, replicate, subst}
use Rattle.std.specs.Bool.{MatchBool}
use Rattle.sf_steps_laws.specs.declared.turn.Turn.TheVariants as turn
use Rattle.sf_steps_laws.specs.Schedules.{IsSchedule}
use Rattle.sf_steps_text.specs.Played.{text_setting}
use Rattle.sf_steps_text.specs.PlayerState.{IsAfter}
use Rattle.sf_steps_text.proofs.Playing.{too_many}
use Rattle.sf_steps_text.proofs.player.Player.steps.Goals as goal

pub returns-then-not-branch : goal.returns-then-not-branch
returns-then-not-branch c = record {
  turns = λ ts is.
      let front = ts ++ replicate c.loop-i._i (turn.Step c.args.caller) in
      too_many text_setting ts c.args.count c.loop-i._i (turn.Step c.args.caller) c.loop-i-test.true
      (subst (λ (b : Bool). MatchBool b (IsAfter c.step.new.self (front ++ turn.Step c.args.caller ∷ [])) (IsSchedule text_setting (front ++ turn.Step c.args.caller ∷ []) → ⊥)) c.if-not-branch.true
      (c.in_ok-step.ensures.turn front (c.loop-i.invariant ts is)));
}
