use Rattle.sf_steps.proofs.Rows.{asks_within}
use Rattle.sf_steps.proofs.world.World.next_call.Goals as goal

pub generation-requires : goal.generation-requires
generation-requires g c = asks_within c.args.self.now.rows.items c.args.self.now.callers c.args.caller c.args.self.now.rows_for_callers c.requires
