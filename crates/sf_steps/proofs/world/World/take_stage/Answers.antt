use Rattle.std.proofs.Math.ListN.{length-set}
use Rattle.std.proofs.Common.{◌<◌, length, sym, subst, ◌∙◌, ap, arith, slice_index_or}
use Rattle.std.proofs.lemmas.Bool.{true≢false}
use Rattle.sf_words.specs.declared.key_word.KeyState.TheVariants.{Never}
use Rattle.sf_steps_laws.specs.declared.operation.Stage.{Stage}
use Rattle.sf_steps_laws.specs.declared.operation.Stage.TheVariants.{Free}
use Rattle.sf_steps_laws.specs.Stages.{second_in}
use Rattle.sf_steps_laws.specs.World.{World, with_stage}
use Rattle.sf_lists.proofs.Functions.{put_here}
use Rattle.sf_steps.specs.Rows.{IsLawful}
use Rattle.sf_steps.specs.Running.{world_of}
use Rattle.sf_steps.proofs.Rows.{none_some, lent_row, stage_set, paired_set, lawful_set}
use Rattle.sf_steps.proofs.world.World.take_stage.Goals as goal

pub returns-clause-world : goal.returns-clause-world
returns-clause-world g c =
    let within : c.args.caller < length c.args.self.now.rows.items = omega arith in
    let is = lent_row c.args.self.now.rows.items c.args.caller c.index_mut.result.now within c.index_mut.ensures.value in
    stage_set c.args.self.now.callers (λ k. slice_index_or c.args.self.now.keys.items k Never) c.args.self.now.rows.items c.args.caller c.index_mut.result.now within is c.replace.new.dest ∙ ap (λ (s : Stage g.row.V.Denot). with_stage (world_of c.args.self.now) c.args.caller s) c.replace.ensures.after

pub returns-clause-stage : goal.returns-clause-stage
returns-clause-stage g c =
    let within : c.args.caller < length c.args.self.now.rows.items = omega arith in
    let is = lent_row c.args.self.now.rows.items c.args.caller c.index_mut.result.now within c.index_mut.ensures.value in
    ap (λ (w : World g.row.V.Denot). w.stages c.args.caller) (stage_set c.args.self.now.callers (λ k. slice_index_or c.args.self.now.keys.items k Never) c.args.self.now.rows.items c.args.caller c.index_mut.result.now within is c.replace.new.dest) ∙ (put_here (world_of c.args.self.now).stages c.args.caller c.replace.new.dest ∙ c.replace.ensures.after)

pub invariant_of-self-clause-rows_for_callers : goal.invariant_of-self-clause-rows_for_callers
invariant_of-self-clause-rows_for_callers g c =
    length-set c.args.self.now.rows.items c.args.caller (record c.index_mut.result.now { stage = c.replace.new.dest }) ∙ c.args.self.now.rows_for_callers

pub invariant_of-self-clause-lawful : goal.invariant_of-self-clause-lawful
invariant_of-self-clause-lawful g c =
    let within : c.args.caller < length c.args.self.now.rows.items = omega arith in
    let is = lent_row c.args.self.now.rows.items c.args.caller c.index_mut.result.now within c.index_mut.ensures.value in
    let P = λ (s : Stage g.row.V.Denot). IsLawful c.args.self.now.callers c.args.self.now.places (record c.index_mut.result.now { stage = s }) in
    let free : IsLawful c.args.self.now.callers c.args.self.now.places c.index_mut.result.now → P Free = λ old. record { place = (omega arith, c.args.self.now.places_in_range.0); unspent = λ asks. absurd (true≢false (sym asks)); top = old.top; next = old.next; stage = (omega arith, omega arith, omega arith, omega arith) } in
    lawful_set c.args.self.now.callers (λ k. slice_index_or c.args.self.now.keys.items k Never) c.args.self.now.rows.items c.args.caller c.index_mut.result.now within is c.args.self.now.callers c.args.self.now.places (record c.index_mut.result.now { stage = c.replace.new.dest }) c.args.self.now.lawful
    (λ old. subst P (sym c.replace.ensures.after) (free old))

pub invariant_of-self-clause-paired : goal.invariant_of-self-clause-paired
invariant_of-self-clause-paired g c =
    let within : c.args.caller < length c.args.self.now.rows.items = omega arith in
    let is = lent_row c.args.self.now.rows.items c.args.caller c.index_mut.result.now within c.index_mut.ensures.value in
    paired_set c.args.self.now.callers (λ k. slice_index_or c.args.self.now.keys.items k Never) c.args.self.now.rows.items c.args.caller c.index_mut.result.now within is c.replace.new.dest c.requires.alone (λ b has. absurd (none_some (second_in c.replace.new.dest) b (ap second_in c.replace.ensures.after) has)) c.args.self.now.paired
