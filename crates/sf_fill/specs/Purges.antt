-- how a Forget of all places ends
use Rattle.std.specs.Prelude.{◌≡◌, ℕ, zero, suc, ◌≤◌, true, false, List, [], ◌++◌, Result, Ok, Err}
use Rattle.sf_history.specs.declared.event.Event.{Event}
use Rattle.sf_fill_store.specs.declared.standing.Standing.{Standing}
use Rattle.sf_fill_store.specs.declared.forget.Forgot.{Forgot}
use Rattle.sf_fill_values.specs.FillValue.{Filled}
use Rattle.sf_fill.specs.Fresh.{HasAdded, IsOutdated, handed_by}
use Rattle.sf_fill_store.specs.Forgets.{forgot_by}
use Rattle.sf_fill_store.specs.Logs.{logged_by}
use Rattle.sf_fill.specs.GetterValue.{GetterValue}
use Rattle.sf_fill_store.specs.Standings.{number_of, seen_of}

-- of the first places in turn, the Forget of the call that each named, if it named one
abbrev pub AreForgets : ℕ → ℕ → List (Event ℕ Filled) → Type 0
AreForgets by zero added = added ≡ []
AreForgets by (suc n) added = (before : List (Event ℕ Filled)) × (came_to : Forgot) × AreForgets by n before × (added ≡ before ++ forgot_by by (suc n) came_to)

-- after these events, the caller made these Forgets of the first places, and no call of them is current then that was before
pub record HasForgottenFirst (places : ℕ) (handed : List (Event ℕ Filled)) (old new : Standing Filled) : Type 0 where
  pub forgets : List (Event ℕ Filled)
  pub each : AreForgets (number_of old) places forgets
  pub adds : HasAdded old new (handed ++ forgets)
  pub outdated : (k : ℕ) → 1 ≤ k → k ≤ places → IsOutdated k (seen_of old) (seen_of new)

module _ {L E : Type 0} where
  -- what was owed is handed out, and then each place has its turn; where memory is refused for what is owed, nothing is forgotten
  abbrev pub ForgetsAll : ℕ → GetterValue L → GetterValue L → Result Unit E → Type 0
  ForgetsAll places old new (Ok done) = (new ≡ record old { standing = new.standing; log = new.log })
      × ((first : HasForgottenFirst places (handed_by old.standing true) old.standing new.standing) × (new.log ≡ logged_by old.log (handed_by old.standing true ++ first.forgets)))
  ForgetsAll places old new (Err e) = (new ≡ record old { standing = new.standing; log = new.log })
      × HasAdded old.standing new.standing (handed_by old.standing false) × (new.log ≡ logged_by old.log (handed_by old.standing false))
