-- how an owed delivery goes on
use Rattle.std.specs.Prelude.{◌≡◌}
use Rattle.sf_group_rows.specs.declared.outcomes.Finished.TheVariants.{Done, Held}
use Rattle.sf_group_rows.specs.Tokens.{LetterValue}
use Rattle.sf_group_rows.specs.Finishes.{HasGoneOn}
use Rattle.sf_fill_store.specs.declared.standing.Standing.{Standing}
use Rattle.sf_fill_store.specs.declared.standing.Standing.TheVariants.{Free, Owing}
use Rattle.sf_fill_values.specs.FillValue.{Filled, FitsFill}
use Rattle.sf_fill.specs.GetterValue.{GetterValue}

-- a caller that owes nothing stays; a delivery that is owed goes on, and is done or is owed still
abbrev pub HasDelivered : Standing Filled → Standing Filled → Type 0
HasDelivered (Free c) new = new ≡ Free c
HasDelivered (Owing s) (Free d) = (l : LetterValue Filled) × HasGoneOn FitsFill s (Done d l)
HasDelivered (Owing s) (Owing t) = HasGoneOn FitsFill s (Held t)

module _ {L : Type 0} where
  -- nothing else of the getter changes
  pub record HasSettledUp (old new : GetterValue L) : Type 0 where
    pub delivered : HasDelivered old.standing new.standing
    pub rest : new ≡ record old { standing = new.standing; log = new.log }
