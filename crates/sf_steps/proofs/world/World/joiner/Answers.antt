use Rattle.std.proofs.Common.{◌≡◌, ℕ, ◌≤◌, true, sym, subst}
use Rattle.sf_steps_laws.specs.Stages.{is_asking}
use Rattle.sf_steps.specs.Running.{world_of}
use Rattle.sf_steps.proofs.Seconds.{joiner_within, joiner_asks}
use Rattle.sf_steps.proofs.Rows.{past_free}
use Rattle.sf_steps.proofs.world.World.joiner.Goals as goal

pub returns-clause-within : goal.returns-clause-within
returns-clause-within g c =
    subst (λ (n : ℕ). n ≤ c.args.self.now.callers) (sym c.unwrap_or.ensures)
    (joiner_within (world_of c.args.self.now).stages c.args.self.now.callers c.args.caller c.requires.asks.0 c.args.second c.requires.asks.1 (past_free c.args.self.now.rows.items c.args.self.now.callers c.args.self.now.rows_for_callers) c.args.self.now.paired c.requires.caller c.requires.asks.2)

pub returns-clause-asks : goal.returns-clause-asks
returns-clause-asks g c =
    subst (λ (n : ℕ). is_asking ((world_of c.args.self.now).stages n) ≡ true) (sym c.unwrap_or.ensures)
    (joiner_asks (world_of c.args.self.now).stages c.args.self.now.callers c.args.caller c.requires.asks.0 c.args.second c.requires.asks.1 (past_free c.args.self.now.rows.items c.args.self.now.callers c.args.self.now.rows_for_callers) c.args.self.now.paired c.requires.asks.2)
