use Rattle.std.proofs.Common.{◌+◌, ℕ, sym, ap, arith}
use Rattle.std.proofs.lemmas.Bool.{true≢false}
use Rattle.sf_words.specs.declared.key_word.KeyState.TheVariants.{Never}
use Rattle.sf_steps_laws.specs.Stages.{second_in}
use Rattle.sf_steps.specs.declared.caller_row.CallerRow.{CallerRow}
use Rattle.sf_steps.specs.Rows.{IsLawful, first_row, row_at}
use Rattle.sf_steps.proofs.Rows.{none_some, all_replicate, length_replicate, read_replicate, world_at_first}
use Rattle.sf_steps.proofs.world.World.new.Goals as goal

pub invariant_of-result-clause-keys_for_places : goal.invariant_of-result-clause-keys_for_places
invariant_of-result-clause-keys_for_places g c = length_replicate c.in_ok-first_keys.field-0.items (c.args.places + 1) Never c.in_ok-first_keys.ensures

pub invariant_of-result-clause-rows_for_callers : goal.invariant_of-result-clause-rows_for_callers
invariant_of-result-clause-rows_for_callers g c = length_replicate c.in_ok-first_rows.field-0.items (c.args.callers + 1) first_row c.in_ok-first_rows.ensures

pub invariant_of-result-clause-places_in_range : goal.invariant_of-result-clause-places_in_range
invariant_of-result-clause-places_in_range g c = (c.requires.places.0, omega arith)

pub invariant_of-result-clause-lawful : goal.invariant_of-result-clause-lawful
invariant_of-result-clause-lawful g c =
    all_replicate (λ (r : CallerRow g.row.V.Denot). IsLawful c.args.callers c.args.places r) c.in_ok-first_rows.field-0.items (c.args.callers + 1) first_row c.in_ok-first_rows.ensures
    (record { place = (omega arith, c.requires.places.0); unspent = λ asks. absurd (true≢false (sym asks)); top = omega arith; next = omega arith; stage = (omega arith, omega arith, omega arith, omega arith) })

pub invariant_of-result-clause-paired : goal.invariant_of-result-clause-paired
invariant_of-result-clause-paired g c = λ a b has.
    absurd (none_some (second_in (row_at c.in_ok-first_rows.field-0.items a).stage) b (ap (λ (row : ℕ → CallerRow g.row.V.Denot). second_in (row a).stage) (read_replicate c.in_ok-first_rows.field-0.items (c.args.callers + 1) first_row c.in_ok-first_rows.ensures)) has)

pub returns-clause-world : goal.returns-clause-world
returns-clause-world g c =
    world_at_first (read_replicate c.in_ok-first_keys.field-0.items (c.args.places + 1) Never c.in_ok-first_keys.ensures)
    (read_replicate c.in_ok-first_rows.field-0.items (c.args.callers + 1) first_row c.in_ok-first_rows.ensures)
