use Rattle.sf_steps.specs.Running.{world_of}
use Rattle.sf_steps.proofs.Seconds.{is_second, one_first}
use Rattle.sf_steps.proofs.Rows.{past_free}
use Rattle.sf_steps.proofs.world.World.leave_asking.Goals as goal

pub set_stages-requires-clause-callers : goal.set_stages-requires-clause-callers
set_stages-requires-clause-callers g c =
    let second = is_second (world_of c.args.self.now).stages c.args.self.now.callers c.args.caller c.requires.asks.0 c.in-Some.second c.args.second c.requires.asks.1 (past_free c.args.self.now.rows.items c.args.self.now.callers c.args.self.now.rows_for_callers) c.args.self.now.paired c.requires.asks.2 c.in-Some.is in
    (second.within, c.requires.caller, second.apart)

pub set_stages-requires-clause-first : goal.set_stages-requires-clause-first
set_stages-requires-clause-first g c =
    let second = is_second (world_of c.args.self.now).stages c.args.self.now.callers c.args.caller c.requires.asks.0 c.in-Some.second c.args.second c.requires.asks.1 (past_free c.args.self.now.rows.items c.args.self.now.callers c.args.self.now.rows_for_callers) c.args.self.now.paired c.requires.asks.2 c.in-Some.is in
    one_first second
