use Rattle.std.proofs.Common.{◌∙◌, sym, subst}
use Rattle.sf_steps_laws.specs.declared.operation.Stage.TheVariants.{Forgetting}
use Rattle.sf_steps_laws.specs.declared.operation.ForgetStep.TheVariants as forget
use Rattle.sf_group_steps.specs.Words.{IsKeyFor}
use Rattle.sf_group_steps.proofs.Forgets.{finds, looked_on, looked_none, forgot_after}
use Rattle.sf_group_steps.proofs.forgetting.forget_once.Goals as goal

pub forget_on-requires-clause-called : goal.forget_on-requires-clause-called
forget_on-requires-clause-called g c =
    let found = finds c.args.target c.forget_look-seen.result c.in-Some.called (sym c.called_by.ensures ∙ c.in-Some.is) in
    subst (IsKeyFor c.args.actor.sizes.callers) found.named c.forget_look-seen.ensures.range

pub forget_on-requires-clause-meant : goal.forget_on-requires-clause-meant
forget_on-requires-clause-meant g c =
    (finds c.args.target c.forget_look-seen.result c.in-Some.called (sym c.called_by.ensures ∙ c.in-Some.is)).meant

pub forget_on-requires-clause-shown : goal.forget_on-requires-clause-shown
forget_on-requires-clause-shown g c =
    c.forget_look-seen.ensures.shown ∙ (finds c.args.target c.forget_look-seen.result c.in-Some.called (sym c.called_by.ensures ∙ c.in-Some.is)).named

pub forget_on-requires-clause-asks : goal.forget_on-requires-clause-asks
forget_on-requires-clause-asks g c =
    (looked_on c.args.actor.sizes c.args.actor.number c.args.actor.place c.args.target c.forget_look-seen.result c.in-Some.called c.args.seat.now.me.0 c.forget_look-seen.new.seat.me.0 (sym c.called_by.ensures ∙ c.in-Some.is) c.forget_look-seen.ensures.told).sits

pub returns-in-Some-clause-forgot : goal.returns-in-Some-clause-forgot
returns-in-Some-clause-forgot g c =
    let v = c.args.seat.now.me.0 in
    let w = c.forget_look-seen.new.seat.me.0 in
    forgot_after c.args.actor.sizes c.args.actor.number c.args.actor.place c.args.target c.args.last v w c.forget_on.new.seat.me.0 (Forgetting c.args.actor.place c.args.target (forget.Peek c.in-Some.called)) c.forget_on.result
    (looked_on c.args.actor.sizes c.args.actor.number c.args.actor.place c.args.target c.forget_look-seen.result c.in-Some.called v w (sym c.called_by.ensures ∙ c.in-Some.is) c.forget_look-seen.ensures.told) c.forget_on.ensures.forgot

pub returns-in-None-clause-forgot : goal.returns-in-None-clause-forgot
returns-in-None-clause-forgot g c =
    looked_none c.args.actor.sizes c.args.actor.number c.args.actor.place c.args.target c.forget_look-seen.result c.args.seat.now.me.0 c.forget_look-seen.new.seat.me.0 (sym c.called_by.ensures ∙ c.in-None.is) c.forget_look-seen.ensures.told
