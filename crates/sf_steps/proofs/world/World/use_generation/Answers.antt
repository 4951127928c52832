use Rattle.std.proofs.Math.ListN.{length-set}
use Rattle.std.proofs.Common.{◌≡◌, false, ◌<◌, ◌+◌, length, sym, ◌∙◌, refl, ap, arith, slice_index_or}
use Rattle.std.proofs.lemmas.Bool.{true≢false}
use Rattle.sf_words.specs.declared.key_word.KeyState.TheVariants.{Never}
use Rattle.sf_steps_laws.specs.Stages.{is_asking}
use Rattle.sf_steps.specs.declared.caller_row.CallerRow.{CallerRow}
use Rattle.sf_steps.proofs.Rows.{lent_row, generation_used, stage_kept, still_paired, lawful_set}
use Rattle.sf_steps.proofs.world.World.use_generation.Goals as goal

pub returns-clause-world : goal.returns-clause-world
returns-clause-world g c =
    let within : c.args.caller < length c.args.self.now.rows.items = omega arith in
    let is = lent_row c.args.self.now.rows.items c.args.caller c.index_mut.result.now within c.index_mut.ensures.value in
    generation_used c.args.self.now.callers (λ k. slice_index_or c.args.self.now.keys.items k Never) c.args.self.now.rows.items c.args.caller c.index_mut.result.now within is

pub returns-clause-stages : goal.returns-clause-stages
returns-clause-stages g c =
    let within : c.args.caller < length c.args.self.now.rows.items = omega arith in
    let is = lent_row c.args.self.now.rows.items c.args.caller c.index_mut.result.now within c.index_mut.ensures.value in
    stage_kept c.args.self.now.callers (λ k. slice_index_or c.args.self.now.keys.items k Never) c.args.self.now.rows.items c.args.caller c.index_mut.result.now within is (record c.index_mut.result.now { generation = c.index_mut.result.now.generation + 1 }) refl

pub invariant_of-self-clause-rows_for_callers : goal.invariant_of-self-clause-rows_for_callers
invariant_of-self-clause-rows_for_callers g c =
    length-set c.args.self.now.rows.items c.args.caller (record c.index_mut.result.now { generation = c.index_mut.result.now.generation + 1 }) ∙ c.args.self.now.rows_for_callers

pub invariant_of-self-clause-lawful : goal.invariant_of-self-clause-lawful
invariant_of-self-clause-lawful g c =
    let within : c.args.caller < length c.args.self.now.rows.items = omega arith in
    let is = lent_row c.args.self.now.rows.items c.args.caller c.index_mut.result.now within c.index_mut.ensures.value in
    let none : is_asking c.index_mut.result.now.stage ≡ false = ap (λ (r : CallerRow g.row.V.Denot). is_asking r.stage) is ∙ c.requires.asks in
    lawful_set c.args.self.now.callers (λ k. slice_index_or c.args.self.now.keys.items k Never) c.args.self.now.rows.items c.args.caller c.index_mut.result.now within is c.args.self.now.callers c.args.self.now.places (record c.index_mut.result.now { generation = c.index_mut.result.now.generation + 1 }) c.args.self.now.lawful
    (λ old. record { place = old.place; unspent = λ asks. absurd (true≢false (sym asks ∙ none)); top = old.top; next = old.next; stage = old.stage })

pub invariant_of-self-clause-paired : goal.invariant_of-self-clause-paired
invariant_of-self-clause-paired g c =
    let within : c.args.caller < length c.args.self.now.rows.items = omega arith in
    let is = lent_row c.args.self.now.rows.items c.args.caller c.index_mut.result.now within c.index_mut.ensures.value in
    still_paired c.args.self.now.callers (λ k. slice_index_or c.args.self.now.keys.items k Never) c.args.self.now.rows.items c.args.caller c.index_mut.result.now within is (record c.index_mut.result.now { generation = c.index_mut.result.now.generation + 1 }) refl c.args.self.now.paired
