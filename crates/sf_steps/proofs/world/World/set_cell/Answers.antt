use Rattle.std.proofs.Math.ListN.{length-set}
use Rattle.std.proofs.Common.{◌<◌, length, ◌∙◌, refl, arith, slice_index_or}
use Rattle.sf_words.specs.declared.key_word.KeyState.TheVariants.{Never}
use Rattle.sf_steps.proofs.Rows.{lent_row, stage_kept, cell_set, still_paired, lawful_set}
use Rattle.sf_steps.proofs.world.World.set_cell.Goals as goal

pub returns-clause-world : goal.returns-clause-world
returns-clause-world g c =
    let within : c.args.caller < length c.args.self.now.rows.items = omega arith in
    let is = lent_row c.args.self.now.rows.items c.args.caller c.index_mut.result.now within c.index_mut.ensures.value in
    cell_set c.args.self.now.callers (λ k. slice_index_or c.args.self.now.keys.items k Never) c.args.self.now.rows.items c.args.caller c.index_mut.result.now within is c.args.letter

pub returns-clause-stages : goal.returns-clause-stages
returns-clause-stages g c =
    let within : c.args.caller < length c.args.self.now.rows.items = omega arith in
    let is = lent_row c.args.self.now.rows.items c.args.caller c.index_mut.result.now within c.index_mut.ensures.value in
    stage_kept c.args.self.now.callers (λ k. slice_index_or c.args.self.now.keys.items k Never) c.args.self.now.rows.items c.args.caller c.index_mut.result.now within is (record c.index_mut.result.now { cell = c.args.letter }) refl

pub invariant_of-self-clause-rows_for_callers : goal.invariant_of-self-clause-rows_for_callers
invariant_of-self-clause-rows_for_callers g c =
    length-set c.args.self.now.rows.items c.args.caller (record c.index_mut.result.now { cell = c.args.letter }) ∙ c.args.self.now.rows_for_callers

pub invariant_of-self-clause-lawful : goal.invariant_of-self-clause-lawful
invariant_of-self-clause-lawful g c =
    let within : c.args.caller < length c.args.self.now.rows.items = omega arith in
    let is = lent_row c.args.self.now.rows.items c.args.caller c.index_mut.result.now within c.index_mut.ensures.value in
    lawful_set c.args.self.now.callers (λ k. slice_index_or c.args.self.now.keys.items k Never) c.args.self.now.rows.items c.args.caller c.index_mut.result.now within is c.args.self.now.callers c.args.self.now.places (record c.index_mut.result.now { cell = c.args.letter }) c.args.self.now.lawful
    (λ old. record { place = old.place; unspent = old.unspent; top = old.top; next = old.next; stage = old.stage })

pub invariant_of-self-clause-paired : goal.invariant_of-self-clause-paired
invariant_of-self-clause-paired g c =
    let within : c.args.caller < length c.args.self.now.rows.items = omega arith in
    let is = lent_row c.args.self.now.rows.items c.args.caller c.index_mut.result.now within c.index_mut.ensures.value in
    still_paired c.args.self.now.callers (λ k. slice_index_or c.args.self.now.keys.items k Never) c.args.self.now.rows.items c.args.caller c.index_mut.result.now within is (record c.index_mut.result.now { cell = c.args.letter }) refl c.args.self.now.paired
