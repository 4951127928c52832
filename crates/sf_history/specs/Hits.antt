-- what prints what a Forget of one call found
use Rattle.std.specs.Prelude.{ℕ, List, codes}
use Rattle.sf_history.specs.declared.event.Hit.{Hit}
use Rattle.sf_history.specs.declared.event.Hit.TheVariants.{Closed, Cleared, Missed}

abbrev pub hit_text : Hit → List ℕ
hit_text Closed = codes "closed"
hit_text Cleared = codes "cleared"
hit_text Missed = codes "missed"
