use Rattle.std.proofs.Common.{◌≡◌, ◌≤◌, ℕ, ap, arith}
use Rattle.sf_steps_laws.specs.Stages.{is_asking}
use Rattle.sf_steps.specs.Running.{world_of}
use Rattle.sf_steps.proofs.Seconds.{is_second, one_first}
use Rattle.sf_steps.proofs.Worlds.{joins_alone, joins_with}
use Rattle.sf_steps.proofs.Rows.{past_free}
use Rattle.sf_steps.proofs.world.World.take_ticket.Goals as goal
use Rattle.sf_words.specs.declared.limits.TheConstants.{LARGEST_GENERATION}

pub set_stages-requires-clause-callers : goal.set_stages-requires-clause-callers
set_stages-requires-clause-callers g c =
    let second = is_second (world_of c.args.self.now).stages c.args.self.now.callers c.args.caller c.args.place c.in-Some.second c.args.second c.requires.asks.0 (past_free c.args.self.now.rows.items c.args.self.now.callers c.args.self.now.rows_for_callers) c.args.self.now.paired c.requires.asks.1 c.in-Some.is in
    (second.within, c.requires.caller, second.apart)

pub set_stages-requires-clause-first : goal.set_stages-requires-clause-first
set_stages-requires-clause-first g c =
    let second = is_second (world_of c.args.self.now).stages c.args.self.now.callers c.args.caller c.args.place c.in-Some.second c.args.second c.requires.asks.0 (past_free c.args.self.now.rows.items c.args.self.now.callers c.args.self.now.rows_for_callers) c.args.self.now.paired c.requires.asks.1 c.in-Some.is in
    one_first second

pub use_generation-requires-clause-room : goal.use_generation-requires-clause-room
use_generation-requires-clause-room g c =
    let same : (world_of c.set_stage.new.self).generations c.args.caller ≡ (world_of c.args.self.now).generations c.args.caller = ap (λ (row : ℕ → ℕ). row c.args.caller) c.set_stage.ensures.generations in
    let left : (world_of c.args.self.now).generations c.args.caller ≤ LARGEST_GENERATION = (c.args.self.now.lawful c.args.caller).unspent (ap is_asking c.requires.asks.1) in
    omega arith

pub use_generation-requires-in-Some-clause-room : goal.use_generation-requires-in-Some-clause-room
use_generation-requires-in-Some-clause-room g c =
    let second = is_second (world_of c.args.self.now).stages c.args.self.now.callers c.args.caller c.args.place c.in-Some.second c.args.second c.requires.asks.0 (past_free c.args.self.now.rows.items c.args.self.now.callers c.args.self.now.rows_for_callers) c.args.self.now.paired c.requires.asks.1 c.in-Some.is in
    let same : (world_of c.set_stages.new.self).generations c.in-Some.second ≡ (world_of c.args.self.now).generations c.in-Some.second = ap (λ (row : ℕ → ℕ). row c.in-Some.second) c.set_stages.ensures.generations in
    let left : (world_of c.args.self.now).generations c.in-Some.second ≤ LARGEST_GENERATION = (c.args.self.now.lawful c.in-Some.second).unspent second.asks in
    omega arith

pub returns-in-None-clause-world : goal.returns-in-None-clause-world
returns-in-None-clause-world g c =
    joins_alone (world_of c.args.self.now) (world_of c.set_stage.new.self) (world_of c.use_generation.new.self) c.args.caller c.args.place c.joiner-by.result c.args.second c.args.call c.next_call-generation.result c.in-None.is c.next_call-generation.ensures c.joiner-by.ensures.who c.set_stage.ensures.world c.use_generation.ensures.world

pub returns-in-Some-clause-world : goal.returns-in-Some-clause-world
returns-in-Some-clause-world g c =
    let second = is_second (world_of c.args.self.now).stages c.args.self.now.callers c.args.caller c.args.place c.in-Some.second c.args.second c.requires.asks.0 (past_free c.args.self.now.rows.items c.args.self.now.callers c.args.self.now.rows_for_callers) c.args.self.now.paired c.requires.asks.1 c.in-Some.is in
    joins_with (world_of c.args.self.now) (world_of c.set_stages.new.self) (world_of c.use_generation-in-Some.new.self) c.args.caller c.args.place c.in-Some.second c.joiner-by.result c.args.second c.args.call c.next_call-generation.result second.apart c.in-Some.is c.next_call-generation.ensures c.joiner-by.ensures.who c.set_stages.ensures.world c.use_generation-in-Some.ensures.world
