use Rattle.std.proofs.Common.{refl, [], ◌∷◌}
use Rattle.sf_steps_laws.specs.Events.{closes}
use Rattle.sf_steps_laws.specs.declared.operation.Stage.TheVariants.{Forgetting, Free}
use Rattle.sf_steps_laws.specs.declared.operation.ForgetStep.TheVariants as forget
use Rattle.sf_group_steps.proofs.Forgets.{goes_still}
use Rattle.sf_group_steps.proofs.forgetting.close_on.Goals as goal

pub returns-then-close_forgotten-clause-closed : goal.returns-then-close_forgotten-clause-closed
returns-then-close_forgotten-clause-closed g c = (
  refl,
  goes_still c.args.actor.sizes c.args.actor.number 0 c.args.seat.now.me.0 c.close_forgotten.new.seat.me.0 c.last_clear.new.seat.me.0 (Forgetting c.args.actor.place c.args.target (forget.LastClear c.args.called)) Free (closes c.args.actor.number c.args.actor.place c.args.target c.args.called ∷ [])
      (c.close_forgotten.ensures.won c.if-close_forgotten.true) c.last_clear.ensures.told,
)

pub returns-else-close_forgotten-clause-closed : goal.returns-else-close_forgotten-clause-closed
returns-else-close_forgotten-clause-closed g c = c.close_forgotten.ensures.lost c.if-close_forgotten.false
