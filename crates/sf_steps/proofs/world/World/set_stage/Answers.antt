use Rattle.std.proofs.Math.ListN.{length-set}
use Rattle.std.proofs.Common.{◌≡◌, true, ◌≤◌, ◌<◌, ℕ, length, sym, subst, ◌∙◌, refl, ap, arith, slice_index_or}
use Rattle.sf_words.specs.declared.key_word.KeyState.TheVariants.{Never}
use Rattle.sf_steps_laws.specs.Stages.{is_asking}
use Rattle.sf_steps_laws.specs.World.{World}
use Rattle.sf_lists.proofs.Functions.{put_here}
use Rattle.sf_steps.specs.declared.caller_row.CallerRow.{CallerRow}
use Rattle.sf_steps.specs.Running.{world_of}
use Rattle.sf_steps.proofs.Rows.{lent_row, generation_kept, stage_set, paired_set, lawful_set}
use Rattle.sf_steps.proofs.world.World.set_stage.Goals as goal
use Rattle.sf_words.specs.declared.limits.TheConstants.{LARGEST_GENERATION}

pub returns-clause-world : goal.returns-clause-world
returns-clause-world g c =
    let within : c.args.caller < length c.args.self.now.rows.items = omega arith in
    let is = lent_row c.args.self.now.rows.items c.args.caller c.index_mut.result.now within c.index_mut.ensures.value in
    stage_set c.args.self.now.callers (λ k. slice_index_or c.args.self.now.keys.items k Never) c.args.self.now.rows.items c.args.caller c.index_mut.result.now within is c.args.stage

pub returns-clause-stage : goal.returns-clause-stage
returns-clause-stage g c =
    let within : c.args.caller < length c.args.self.now.rows.items = omega arith in
    let is = lent_row c.args.self.now.rows.items c.args.caller c.index_mut.result.now within c.index_mut.ensures.value in
    ap (λ (w : World g.row.V.Denot). w.stages c.args.caller) (stage_set c.args.self.now.callers (λ k. slice_index_or c.args.self.now.keys.items k Never) c.args.self.now.rows.items c.args.caller c.index_mut.result.now within is c.args.stage) ∙ put_here (world_of c.args.self.now).stages c.args.caller c.args.stage

pub returns-clause-generations : goal.returns-clause-generations
returns-clause-generations g c =
    let within : c.args.caller < length c.args.self.now.rows.items = omega arith in
    let is = lent_row c.args.self.now.rows.items c.args.caller c.index_mut.result.now within c.index_mut.ensures.value in
    generation_kept c.args.self.now.callers (λ k. slice_index_or c.args.self.now.keys.items k Never) c.args.self.now.rows.items c.args.caller c.index_mut.result.now within is (record c.index_mut.result.now { stage = c.args.stage }) refl

pub invariant_of-self-clause-rows_for_callers : goal.invariant_of-self-clause-rows_for_callers
invariant_of-self-clause-rows_for_callers g c =
    length-set c.args.self.now.rows.items c.args.caller (record c.index_mut.result.now { stage = c.args.stage }) ∙ c.args.self.now.rows_for_callers

pub invariant_of-self-clause-lawful : goal.invariant_of-self-clause-lawful
invariant_of-self-clause-lawful g c =
    let within : c.args.caller < length c.args.self.now.rows.items = omega arith in
    let is = lent_row c.args.self.now.rows.items c.args.caller c.index_mut.result.now within c.index_mut.ensures.value in
    let spent : is_asking c.args.stage ≡ true → c.index_mut.result.now.generation ≤ LARGEST_GENERATION = λ asks. subst (λ (n : ℕ). n ≤ LARGEST_GENERATION) (sym (ap (λ (r : CallerRow g.row.V.Denot). r.generation) is)) (c.requires.spent asks) in
    lawful_set c.args.self.now.callers (λ k. slice_index_or c.args.self.now.keys.items k Never) c.args.self.now.rows.items c.args.caller c.index_mut.result.now within is c.args.self.now.callers c.args.self.now.places (record c.index_mut.result.now { stage = c.args.stage }) c.args.self.now.lawful
    (λ old. record { place = c.requires.place; unspent = spent; top = old.top; next = old.next; stage = c.requires.within })

pub invariant_of-self-clause-paired : goal.invariant_of-self-clause-paired
invariant_of-self-clause-paired g c =
    let within : c.args.caller < length c.args.self.now.rows.items = omega arith in
    let is = lent_row c.args.self.now.rows.items c.args.caller c.index_mut.result.now within c.index_mut.ensures.value in
    paired_set c.args.self.now.callers (λ k. slice_index_or c.args.self.now.keys.items k Never) c.args.self.now.rows.items c.args.caller c.index_mut.result.now within is c.args.stage c.requires.alone c.requires.second c.args.self.now.paired
