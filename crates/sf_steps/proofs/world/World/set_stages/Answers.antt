use Rattle.std.proofs.Math.ListN.{length-set}
use Rattle.std.proofs.Common.{◌≡◌, true, ◌≤◌, ◌<◌, ℕ, length, sym, subst, ◌∙◌, refl, ap, arith, slice_index_or, slice_set}
use Rattle.sf_words.specs.declared.key_word.KeyState.TheVariants.{Never}
use Rattle.sf_steps_laws.specs.declared.operation.Stage.{Stage}
use Rattle.sf_steps_laws.specs.Stages.{is_asking}
use Rattle.sf_steps_laws.specs.World.{World, with_stage}
use Rattle.sf_lists.proofs.Functions.{put_here, put_else}
use Rattle.sf_steps.specs.declared.caller_row.CallerRow.{CallerRow}
use Rattle.sf_steps.specs.Rows.{ArePaired}
use Rattle.sf_steps.specs.Running.{world_of}
use Rattle.sf_steps.proofs.Rows.{still_below, lent_row, generation_kept, stage_set, paired_puts, lawful_set}
use Rattle.sf_steps.proofs.world.World.set_stages.Goals as goal
use Rattle.sf_words.specs.declared.limits.TheConstants.{LARGEST_GENERATION}

pub returns-clause-world : goal.returns-clause-world
returns-clause-world g c =
    let within : c.args.second < length c.args.self.now.rows.items = omega (arith, c.requires.callers.0) in
    let is = lent_row c.args.self.now.rows.items c.args.second c.index_mut.result.now within c.index_mut.ensures.value in
    let within_2 : c.args.caller < length (slice_set c.args.self.now.rows.items c.args.second (record c.index_mut.result.now { stage = c.args.second_stage })) = still_below c.args.self.now.rows.items c.args.second (record c.index_mut.result.now { stage = c.args.second_stage }) c.args.caller (omega (arith, c.requires.callers.1)) in
    let is_2 = lent_row (slice_set c.args.self.now.rows.items c.args.second (record c.index_mut.result.now { stage = c.args.second_stage })) c.args.caller c.index_mut-2.result.now within_2 c.index_mut-2.ensures.value in
    stage_set c.args.self.now.callers (λ k. slice_index_or c.args.self.now.keys.items k Never) (slice_set c.args.self.now.rows.items c.args.second (record c.index_mut.result.now { stage = c.args.second_stage })) c.args.caller c.index_mut-2.result.now within_2 is_2 c.args.stage ∙ ap (λ (w : World g.row.V.Denot). with_stage w c.args.caller c.args.stage) (stage_set c.args.self.now.callers (λ k. slice_index_or c.args.self.now.keys.items k Never) c.args.self.now.rows.items c.args.second c.index_mut.result.now within is c.args.second_stage)

pub returns-clause-stage : goal.returns-clause-stage
returns-clause-stage g c =
    let within : c.args.second < length c.args.self.now.rows.items = omega (arith, c.requires.callers.0) in
    let is = lent_row c.args.self.now.rows.items c.args.second c.index_mut.result.now within c.index_mut.ensures.value in
    let within_2 : c.args.caller < length (slice_set c.args.self.now.rows.items c.args.second (record c.index_mut.result.now { stage = c.args.second_stage })) = still_below c.args.self.now.rows.items c.args.second (record c.index_mut.result.now { stage = c.args.second_stage }) c.args.caller (omega (arith, c.requires.callers.1)) in
    let is_2 = lent_row (slice_set c.args.self.now.rows.items c.args.second (record c.index_mut.result.now { stage = c.args.second_stage })) c.args.caller c.index_mut-2.result.now within_2 c.index_mut-2.ensures.value in
    let stages = (with_stage (world_of c.args.self.now) c.args.second c.args.second_stage).stages in
    ap (λ (w : World g.row.V.Denot). w.stages c.args.caller) (stage_set c.args.self.now.callers (λ k. slice_index_or c.args.self.now.keys.items k Never) (slice_set c.args.self.now.rows.items c.args.second (record c.index_mut.result.now { stage = c.args.second_stage })) c.args.caller c.index_mut-2.result.now within_2 is_2 c.args.stage ∙ ap (λ (w : World g.row.V.Denot). with_stage w c.args.caller c.args.stage) (stage_set c.args.self.now.callers (λ k. slice_index_or c.args.self.now.keys.items k Never) c.args.self.now.rows.items c.args.second c.index_mut.result.now within is c.args.second_stage)) ∙ put_here stages c.args.caller c.args.stage

pub returns-clause-second_stage : goal.returns-clause-second_stage
returns-clause-second_stage g c =
    let within : c.args.second < length c.args.self.now.rows.items = omega (arith, c.requires.callers.0) in
    let is = lent_row c.args.self.now.rows.items c.args.second c.index_mut.result.now within c.index_mut.ensures.value in
    let within_2 : c.args.caller < length (slice_set c.args.self.now.rows.items c.args.second (record c.index_mut.result.now { stage = c.args.second_stage })) = still_below c.args.self.now.rows.items c.args.second (record c.index_mut.result.now { stage = c.args.second_stage }) c.args.caller (omega (arith, c.requires.callers.1)) in
    let is_2 = lent_row (slice_set c.args.self.now.rows.items c.args.second (record c.index_mut.result.now { stage = c.args.second_stage })) c.args.caller c.index_mut-2.result.now within_2 c.index_mut-2.ensures.value in
    let stages = (with_stage (world_of c.args.self.now) c.args.second c.args.second_stage).stages in
    ap (λ (w : World g.row.V.Denot). w.stages c.args.second) (stage_set c.args.self.now.callers (λ k. slice_index_or c.args.self.now.keys.items k Never) (slice_set c.args.self.now.rows.items c.args.second (record c.index_mut.result.now { stage = c.args.second_stage })) c.args.caller c.index_mut-2.result.now within_2 is_2 c.args.stage ∙ ap (λ (w : World g.row.V.Denot). with_stage w c.args.caller c.args.stage) (stage_set c.args.self.now.callers (λ k. slice_index_or c.args.self.now.keys.items k Never) c.args.self.now.rows.items c.args.second c.index_mut.result.now within is c.args.second_stage))
    ∙ (put_else stages c.args.caller c.args.stage c.args.second c.requires.callers.2 ∙ put_here (world_of c.args.self.now).stages c.args.second c.args.second_stage)

pub returns-clause-generations : goal.returns-clause-generations
returns-clause-generations g c =
    let within : c.args.second < length c.args.self.now.rows.items = omega (arith, c.requires.callers.0) in
    let is = lent_row c.args.self.now.rows.items c.args.second c.index_mut.result.now within c.index_mut.ensures.value in
    let within_2 : c.args.caller < length (slice_set c.args.self.now.rows.items c.args.second (record c.index_mut.result.now { stage = c.args.second_stage })) = still_below c.args.self.now.rows.items c.args.second (record c.index_mut.result.now { stage = c.args.second_stage }) c.args.caller (omega (arith, c.requires.callers.1)) in
    let is_2 = lent_row (slice_set c.args.self.now.rows.items c.args.second (record c.index_mut.result.now { stage = c.args.second_stage })) c.args.caller c.index_mut-2.result.now within_2 c.index_mut-2.ensures.value in
    generation_kept c.args.self.now.callers (λ k. slice_index_or c.args.self.now.keys.items k Never) (slice_set c.args.self.now.rows.items c.args.second (record c.index_mut.result.now { stage = c.args.second_stage })) c.args.caller c.index_mut-2.result.now within_2 is_2 (record c.index_mut-2.result.now { stage = c.args.stage }) refl ∙ generation_kept c.args.self.now.callers (λ k. slice_index_or c.args.self.now.keys.items k Never) c.args.self.now.rows.items c.args.second c.index_mut.result.now within is (record c.index_mut.result.now { stage = c.args.second_stage }) refl

pub invariant_of-self-clause-rows_for_callers : goal.invariant_of-self-clause-rows_for_callers
invariant_of-self-clause-rows_for_callers g c =
    length-set (slice_set c.args.self.now.rows.items c.args.second (record c.index_mut.result.now { stage = c.args.second_stage })) c.args.caller (record c.index_mut-2.result.now { stage = c.args.stage }) ∙ (length-set c.args.self.now.rows.items c.args.second (record c.index_mut.result.now { stage = c.args.second_stage }) ∙ c.args.self.now.rows_for_callers)

pub invariant_of-self-clause-lawful : goal.invariant_of-self-clause-lawful
invariant_of-self-clause-lawful g c =
    let within : c.args.second < length c.args.self.now.rows.items = omega (arith, c.requires.callers.0) in
    let is = lent_row c.args.self.now.rows.items c.args.second c.index_mut.result.now within c.index_mut.ensures.value in
    let within_2 : c.args.caller < length (slice_set c.args.self.now.rows.items c.args.second (record c.index_mut.result.now { stage = c.args.second_stage })) = still_below c.args.self.now.rows.items c.args.second (record c.index_mut.result.now { stage = c.args.second_stage }) c.args.caller (omega (arith, c.requires.callers.1)) in
    let is_2 = lent_row (slice_set c.args.self.now.rows.items c.args.second (record c.index_mut.result.now { stage = c.args.second_stage })) c.args.caller c.index_mut-2.result.now within_2 c.index_mut-2.ensures.value in
    let second_spent : is_asking c.args.second_stage ≡ true → c.index_mut.result.now.generation ≤ LARGEST_GENERATION = λ asks. subst (λ (n : ℕ). n ≤ LARGEST_GENERATION) (sym (ap (λ (r : CallerRow g.row.V.Denot). r.generation) is)) (c.requires.second_spent asks) in
    let kept = ap (λ (f : ℕ → ℕ). f c.args.caller) (generation_kept c.args.self.now.callers (λ k. slice_index_or c.args.self.now.keys.items k Never) c.args.self.now.rows.items c.args.second c.index_mut.result.now within is (record c.index_mut.result.now { stage = c.args.second_stage }) refl) in
    let spent : is_asking c.args.stage ≡ true → c.index_mut-2.result.now.generation ≤ LARGEST_GENERATION = λ asks. subst (λ (n : ℕ). n ≤ LARGEST_GENERATION) (sym (ap (λ (r : CallerRow g.row.V.Denot). r.generation) is_2 ∙ kept)) (c.requires.spent asks) in
    lawful_set c.args.self.now.callers (λ k. slice_index_or c.args.self.now.keys.items k Never) (slice_set c.args.self.now.rows.items c.args.second (record c.index_mut.result.now { stage = c.args.second_stage })) c.args.caller c.index_mut-2.result.now within_2 is_2 c.args.self.now.callers c.args.self.now.places (record c.index_mut-2.result.now { stage = c.args.stage })
    (lawful_set c.args.self.now.callers (λ k. slice_index_or c.args.self.now.keys.items k Never) c.args.self.now.rows.items c.args.second c.index_mut.result.now within is c.args.self.now.callers c.args.self.now.places (record c.index_mut.result.now { stage = c.args.second_stage }) c.args.self.now.lawful
    (λ old. record { place = (c.requires.places.2, c.requires.places.3); unspent = second_spent; top = old.top; next = old.next; stage = c.requires.second_within }))
    (λ old. record { place = (c.requires.places.0, c.requires.places.1); unspent = spent; top = old.top; next = old.next; stage = c.requires.within })

pub invariant_of-self-clause-paired : goal.invariant_of-self-clause-paired
invariant_of-self-clause-paired g c =
    let within : c.args.second < length c.args.self.now.rows.items = omega (arith, c.requires.callers.0) in
    let is = lent_row c.args.self.now.rows.items c.args.second c.index_mut.result.now within c.index_mut.ensures.value in
    let within_2 : c.args.caller < length (slice_set c.args.self.now.rows.items c.args.second (record c.index_mut.result.now { stage = c.args.second_stage })) = still_below c.args.self.now.rows.items c.args.second (record c.index_mut.result.now { stage = c.args.second_stage }) c.args.caller (omega (arith, c.requires.callers.1)) in
    let is_2 = lent_row (slice_set c.args.self.now.rows.items c.args.second (record c.index_mut.result.now { stage = c.args.second_stage })) c.args.caller c.index_mut-2.result.now within_2 c.index_mut-2.ensures.value in
    subst (λ (f : ℕ → Stage g.row.V.Denot). ArePaired f) (sym (ap (λ (w : World g.row.V.Denot). w.stages) (stage_set c.args.self.now.callers (λ k. slice_index_or c.args.self.now.keys.items k Never) (slice_set c.args.self.now.rows.items c.args.second (record c.index_mut.result.now { stage = c.args.second_stage })) c.args.caller c.index_mut-2.result.now within_2 is_2 c.args.stage ∙ ap (λ (w : World g.row.V.Denot). with_stage w c.args.caller c.args.stage) (stage_set c.args.self.now.callers (λ k. slice_index_or c.args.self.now.keys.items k Never) c.args.self.now.rows.items c.args.second c.index_mut.result.now within is c.args.second_stage))))
    (paired_puts (world_of c.args.self.now).stages c.args.second c.args.second_stage c.args.caller c.args.stage c.requires.callers.2 c.requires.alone c.requires.first c.requires.second c.requires.no_second c.args.self.now.paired)
