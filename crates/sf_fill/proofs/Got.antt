-- gets and reloads, over the parts of their getters
use Rattle.std.proofs.Common.{◌≡◌, ℕ, List, Result, sym, subst, refl}
use Rattle.sf_fill_keys.specs.declared.key_space.KeyDesk.{KeyDesk}
use Rattle.sf_fill_keys.specs.Spaces.{SpaceId}
use Rattle.sf_fill_values.specs.declared.fault.LoadFault.{LoadFault}
use Rattle.sf_fill_store.specs.declared.forget.Forgot.{Forgot}
use Rattle.sf_fill_store.specs.declared.standing.Standing.{Standing}
use Rattle.sf_fill_counters.specs.declared.totals.Totals.{Totals}
use Rattle.sf_fill_values.specs.FillValue.{Filled}
use Rattle.sf_fill.specs.GetterValue.{GetterValue}
use Rattle.sf_fill_store.specs.Logs.{LogValue}
use Rattle.sf_fill.specs.Owing.{HasSettledUp}
use Rattle.sf_fill.specs.Reloads.{ReloadsFrom, HasReloaded}

module _ {L : Type 0} where
  pub reloaded : (space : SpaceId) (key : List ℕ) (old middle : GetterValue L) (desk after : KeyDesk) (standing back : Standing Filled) (loaders : L)
      (tallies : Totals) (log logged : LogValue) (answer : Result Forgot LoadFault)
      → HasSettledUp old middle → record { desk = desk; standing = standing; loaders = loaders; counted = tallies; log = log } ≡ middle
      → ReloadsFrom space key standing desk after back answer
      → HasReloaded space key old (record { desk = after; standing = back; loaders = loaders; counted = tallies; log = logged }) answer
  reloaded space key old middle desk after standing back loaders tallies log logged answer h is r = record {
    middle = record { desk = desk; standing = standing; loaders = loaders; counted = tallies; log = log };
    settled = subst (HasSettledUp old) (sym is) h;
    reloaded = r;
    rest = refl;
  }
