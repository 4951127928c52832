-- how a getter gets another caller
use Rattle.std.specs.Prelude.{◌≡◌, Bool, true, false}
use Rattle.sf_group_rows.specs.Tokens.{CallerValue}
use Rattle.sf_group_rows.specs.Notes.{HasMet}
use Rattle.sf_fill_store.specs.declared.standing.Standing.TheVariants.{Free}
use Rattle.sf_fill_store.specs.Standings.{is_owing}
use Rattle.sf_fill_values.specs.FillValue.{Filled}
use Rattle.sf_fill.specs.GetterValue.{GetterValue}

module _ {L : Type 0} where
  -- the getter's own caller met the spare one, so that each has seen what either had, and then they changed places; nothing else changes
  pub record HasTraded (old : GetterValue L) (spare : CallerValue Filled) (new : GetterValue L) (back : CallerValue Filled) : Type 0 where
    pub caller : CallerValue Filled
    pub was : old.standing ≡ Free caller
    pub fresh : CallerValue Filled
    pub met : HasMet caller spare back fresh
    pub rest : new ≡ record old { standing = Free fresh }

  -- a getter that owes letters keeps its caller
  abbrev pub Renews : GetterValue L → CallerValue Filled → Bool → GetterValue L → CallerValue Filled → Type 0
  Renews old spare true new back = HasTraded old spare new back
  Renews old spare false new back = (is_owing old.standing ≡ true) × (new ≡ old) × (back ≡ spare)
