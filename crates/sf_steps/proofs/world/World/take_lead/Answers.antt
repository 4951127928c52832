use Rattle.std.proofs.Common.{◌≡◌, ◌+◌, ◌≤◌, ◌≢◌, ℕ, ◌∙◌, sym, ap, arith}
use Rattle.sf_history.specs.declared.call.CallId.{CallId}
use Rattle.sf_steps_laws.specs.declared.operation.Stage.{Stage}
use Rattle.sf_steps_laws.specs.Stages.{is_asking}
use Rattle.sf_steps_laws.specs.World.{World}
use Rattle.sf_steps.specs.Running.{world_of}
use Rattle.sf_steps.proofs.Seconds.{is_second, one_first}
use Rattle.sf_lists.proofs.Functions.{put_else}
use Rattle.sf_steps.proofs.Worlds.{leads_alone, leads_with}
use Rattle.sf_steps.proofs.Rows.{past_free}
use Rattle.sf_steps.proofs.world.World.take_lead.Goals as goal
use Rattle.sf_words.specs.declared.limits.TheConstants.{LARGEST_GENERATION}

pub use_generation-requires-clause-asks : goal.use_generation-requires-clause-asks
use_generation-requires-clause-asks g c =
    ap is_asking c.set_stage.ensures.stage

pub use_generation-requires-clause-room : goal.use_generation-requires-clause-room
use_generation-requires-clause-room g c =
    let same : (world_of c.set_stage.new.self).generations c.args.caller ≡ (world_of c.args.self.now).generations c.args.caller = ap (λ (row : ℕ → ℕ). row c.args.caller) c.set_stage.ensures.generations in
    let left : (world_of c.args.self.now).generations c.args.caller ≤ LARGEST_GENERATION = (c.args.self.now.lawful c.args.caller).unspent (ap is_asking c.requires.asks.1) in
    omega arith

pub returns-in_default-clause-world : goal.returns-in_default-clause-world
returns-in_default-clause-world g c =
    leads_alone (world_of c.args.self.now) (world_of c.set_stage.new.self) (world_of c.use_generation.new.self) c.args.caller c.args.place c.args.second c.next_call-call.result c.in_default.is c.next_call-call.ensures c.set_stage.ensures.world c.use_generation.ensures.world

pub next_call-member-requires : goal.next_call-member-requires
next_call-member-requires g c =
    let second = is_second (world_of c.args.self.now).stages c.args.self.now.callers c.args.caller c.args.place c.in-Some.second c.args.second c.requires.asks.0 (past_free c.args.self.now.rows.items c.args.self.now.callers c.args.self.now.rows_for_callers) c.args.self.now.paired c.requires.asks.1 c.in-Some.is in
    second.asks

pub set_stages-requires-clause-callers : goal.set_stages-requires-clause-callers
set_stages-requires-clause-callers g c =
    let second = is_second (world_of c.args.self.now).stages c.args.self.now.callers c.args.caller c.args.place c.in-Some.second c.args.second c.requires.asks.0 (past_free c.args.self.now.rows.items c.args.self.now.callers c.args.self.now.rows_for_callers) c.args.self.now.paired c.requires.asks.1 c.in-Some.is in
    (second.within, c.requires.caller, second.apart)

pub set_stages-requires-clause-first : goal.set_stages-requires-clause-first
set_stages-requires-clause-first g c =
    let second = is_second (world_of c.args.self.now).stages c.args.self.now.callers c.args.caller c.args.place c.in-Some.second c.args.second c.requires.asks.0 (past_free c.args.self.now.rows.items c.args.self.now.callers c.args.self.now.rows_for_callers) c.args.self.now.paired c.requires.asks.1 c.in-Some.is in
    one_first second

pub set_stages-requires-clause-within : goal.set_stages-requires-clause-within
set_stages-requires-clause-within g c =
    let second = is_second (world_of c.args.self.now).stages c.args.self.now.callers c.args.caller c.args.place c.in-Some.second c.args.second c.requires.asks.0 (past_free c.args.self.now.rows.items c.args.self.now.callers c.args.self.now.rows_for_callers) c.args.self.now.paired c.requires.asks.1 c.in-Some.is in
    let who : c.next_call-member.result.caller ≡ c.in-Some.second = ap (λ (m : CallId). m.caller) c.next_call-member.ensures in
    let there : c.in-Some.second ≤ c.args.self.now.callers = second.within in
    (omega arith, omega arith, omega arith, omega arith)

pub use_generation-requires-2-clause-caller : goal.use_generation-requires-2-clause-caller
use_generation-requires-2-clause-caller g c =
    let second = is_second (world_of c.args.self.now).stages c.args.self.now.callers c.args.caller c.args.place c.in-Some.second c.args.second c.requires.asks.0 (past_free c.args.self.now.rows.items c.args.self.now.callers c.args.self.now.rows_for_callers) c.args.self.now.paired c.requires.asks.1 c.in-Some.is in
    let there : c.in-Some.second ≤ c.args.self.now.callers = second.within in
    omega (arith, c.set_stages.ensures.sizes.0)

pub use_generation-requires-2-clause-asks : goal.use_generation-requires-2-clause-asks
use_generation-requires-2-clause-asks g c =
    ap is_asking c.set_stages.ensures.second_stage

pub use_generation-requires-2-clause-room : goal.use_generation-requires-2-clause-room
use_generation-requires-2-clause-room g c =
    let second = is_second (world_of c.args.self.now).stages c.args.self.now.callers c.args.caller c.args.place c.in-Some.second c.args.second c.requires.asks.0 (past_free c.args.self.now.rows.items c.args.self.now.callers c.args.self.now.rows_for_callers) c.args.self.now.paired c.requires.asks.1 c.in-Some.is in
    let same : (world_of c.set_stages.new.self).generations c.in-Some.second ≡ (world_of c.args.self.now).generations c.in-Some.second = ap (λ (row : ℕ → ℕ). row c.in-Some.second) c.set_stages.ensures.generations in
    let left : (world_of c.args.self.now).generations c.in-Some.second ≤ LARGEST_GENERATION = (c.args.self.now.lawful c.in-Some.second).unspent second.asks in
    omega arith

pub use_generation-requires-3-clause-asks : goal.use_generation-requires-3-clause-asks
use_generation-requires-3-clause-asks g c =
    ap (λ (row : ℕ → Stage g.row.V.Denot). is_asking (row c.args.caller)) c.use_generation-2.ensures.stages ∙ ap is_asking c.set_stages.ensures.stage

pub use_generation-requires-3-clause-room : goal.use_generation-requires-3-clause-room
use_generation-requires-3-clause-room g c =
    let second = is_second (world_of c.args.self.now).stages c.args.self.now.callers c.args.caller c.args.place c.in-Some.second c.args.second c.requires.asks.0 (past_free c.args.self.now.rows.items c.args.self.now.callers c.args.self.now.rows_for_callers) c.args.self.now.paired c.requires.asks.1 c.in-Some.is in
    let other : c.args.caller ≢ c.in-Some.second = λ is. second.apart (sym is) in
    let same : (world_of c.use_generation-2.new.self).generations c.args.caller ≡ (world_of c.args.self.now).generations c.args.caller =
    ap (λ (x : World g.row.V.Denot). x.generations c.args.caller) c.use_generation-2.ensures.world ∙ (put_else (world_of c.set_stages.new.self).generations c.in-Some.second ((world_of c.set_stages.new.self).generations c.in-Some.second + 1) c.args.caller other ∙ ap (λ (row : ℕ → ℕ). row c.args.caller) c.set_stages.ensures.generations) in
    let left : (world_of c.args.self.now).generations c.args.caller ≤ LARGEST_GENERATION = (c.args.self.now.lawful c.args.caller).unspent (ap is_asking c.requires.asks.1) in
    omega arith

pub returns-clause-world : goal.returns-clause-world
returns-clause-world g c =
    leads_with (world_of c.args.self.now) (world_of c.set_stages.new.self) (world_of c.use_generation-2.new.self) (world_of c.use_generation-3.new.self) c.args.caller c.args.place c.in-Some.second c.args.second c.next_call-call.result c.next_call-member.result c.in-Some.is c.next_call-call.ensures c.next_call-member.ensures c.set_stages.ensures.world c.use_generation-2.ensures.world c.use_generation-3.ensures.world
