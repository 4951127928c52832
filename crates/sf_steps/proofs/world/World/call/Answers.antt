use Rattle.std.proofs.Common.{◌≡◌, ◌≤◌, ◌∙◌, List, sym, ap, subst, slice_index_or}
use Rattle.sf_steps_laws.specs.Stages.{top_in}
use Rattle.sf_steps.specs.declared.caller_row.CallerRow.{CallerRow}
use Rattle.sf_steps.specs.Rows.{first_row, row_at}
use Rattle.sf_steps.proofs.world.World.call.Goals as goal

pub returns-in-Some-clause-top : goal.returns-in-Some-clause-top
returns-in-Some-clause-top g c =
    let is : c.in-Some.row.now ≡ row_at c.args.self.now.rows.items c.args.caller = c.in-Some.ensures.lookup.3.1 first_row ∙ ap (λ (rows : List (CallerRow g.row.V.Denot)). slice_index_or rows c.args.caller first_row) c.deref.ensures.value in
    subst (λ (r : CallerRow g.row.V.Denot). top_in r.call ≤ c.args.self.now.callers) (sym is) (c.args.self.now.lawful c.args.caller).top
