use Rattle.std.proofs.Common.{rules, refl, ◌∙◌}
use Rattle.sf_group_rows.specs.Tokens.{CallerValue}
use Rattle.sf_fill_values.specs.FillValue.{Filled}
use Rattle.sf_fill.proofs.Crew.{as_many, callers_of_group}
use Rattle.sf_fill.proofs.parts.FillParts.new.Goals as goal

pub returns-clause-parts : goal.returns-clause-parts
returns-clause-parts g c = record {
  few = c.requires.getters;
  places = c.requires.places;
  group = (refl, search rules);
  desks = c.requires.desks;
  callers = (
    c.in-Ok.callers.ok.0 ∙ as_many (λ (k : CallerValue Filled). k.number) c.in-Ok.callers.items _ c.in-Ok.ensures.numbers ∙ c.len-getters.ensures,
    callers_of_group _ _ c.in-Ok.ensures.callers,
  );
  loaders = refl;
  ledgers = search rules;
}
