use Rattle.std.proofs.Common.{◌≡◌, ◌≤◌, ◌∙◌, List, sym, ap, subst, slice_index_or}
use Rattle.sf_steps_laws.specs.Stages.{field_of}
use Rattle.sf_steps.specs.declared.caller_row.CallerRow.{CallerRow}
use Rattle.sf_steps.specs.Rows.{first_row, row_at}
use Rattle.sf_steps.proofs.world.World.next.Goals as goal

pub returns-in-Some-clause-within : goal.returns-in-Some-clause-within
returns-in-Some-clause-within g c =
    let is : c.in-Some.row.now ≡ row_at c.args.self.now.rows.items c.args.caller = c.in-Some.ensures.lookup.3.1 first_row ∙ ap (λ (rows : List (CallerRow g.row.V.Denot)). slice_index_or rows c.args.caller first_row) c.deref.ensures.value in
    subst (λ (r : CallerRow g.row.V.Denot). field_of r.next ≤ c.args.self.now.callers) (sym is) (c.args.self.now.lawful c.args.caller).next
