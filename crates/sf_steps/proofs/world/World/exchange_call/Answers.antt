use Rattle.std.proofs.Common.{sym, ◌∙◌}
use Rattle.sf_steps.proofs.Rows.{open_within}
use Rattle.sf_steps.proofs.world.World.exchange_call.Goals as goal

pub set_call-requires-clause-caller : goal.set_call-requires-clause-caller
set_call-requires-clause-caller g c =
    open_within c.args.self.now.rows.items c.args.self.now.callers c.args.caller c.args.seen c.args.self.now.rows_for_callers (sym c.is_open-same.ensures ∙ c.if-same.true)
