-- what contracts see of a getter
use Rattle.std.specs.Prelude.{ℕ}
use Rattle.sf_group_rows.specs.Tokens.{CallerValue}
use Rattle.sf_fill_keys.specs.declared.key_space.KeyDesk.{KeyDesk}
use Rattle.sf_fill_store.specs.declared.standing.Standing.{Standing}
use Rattle.sf_fill_store.specs.declared.standing.Standing.TheVariants.{Free}
use Rattle.sf_fill_counters.specs.declared.totals.Totals.{Totals}
use Rattle.sf_fill_values.specs.FillValue.{Filled}
use Rattle.sf_fill_counters.specs.Ledgers.{nothing_counted}
use Rattle.sf_fill_store.specs.Logs.{LogValue, empty_log}

-- its desk, its caller, which is free or owes letters, its loaders, what it has counted, and its log
pub record GetterValue (L : Type 0) : Type 0 where
  pub desk : KeyDesk
  pub standing : Standing Filled
  pub loaders : L
  pub counted : Totals
  pub log : LogValue

-- the getter with other loaders
abbrev pub with_loaders : {L M : Type 0} → GetterValue L → M → GetterValue M
with_loaders getter loaders = record { desk = getter.desk; standing = getter.standing; loaders = loaders; counted = getter.counted; log = getter.log }

module _ {L : Type 0} where
  -- the getter of a desk, a caller and loaders, which has counted nothing and has room to log so many events
  abbrev pub new_getter : ℕ → KeyDesk → CallerValue Filled → L → GetterValue L
  new_getter room desk caller loaders = record { desk = desk; standing = Free caller; loaders = loaders; counted = nothing_counted; log = empty_log room }
