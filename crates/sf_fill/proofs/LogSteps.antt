-- what each step of a getter logs is what it added
use Rattle.std.proofs.Common.{◌≡◌, ℕ, List, sym, ap, ◌∙◌, subst}
use Rattle.sf_history.specs.declared.event.Event.{Event}
use Rattle.sf_group_rows.specs.Tokens.{CallerValue}
use Rattle.sf_fill_keys.specs.declared.key_space.KeyDesk.{KeyDesk}
use Rattle.sf_fill_counters.specs.declared.totals.Totals.{Totals}
use Rattle.sf_fill_store.specs.declared.standing.Standing.{Standing}
use Rattle.sf_fill_store.specs.declared.forget.Forgot.{Forgot}
use Rattle.sf_fill_values.specs.FillValue.{Filled}
use Rattle.sf_fill.specs.Fresh.{HasAdded, delivered_by}
use Rattle.sf_fill_store.specs.Forgets.{forgot_by}
use Rattle.sf_fill.specs.GetterValue.{GetterValue}
use Rattle.sf_fill_store.specs.Standings.{number_of, seen_of}
use Rattle.sf_fill_store.specs.Logs.{LogValue, HasLogged, logged_by}
use Rattle.sf_fill.specs.Owing.{HasDelivered, HasSettledUp}
use Rattle.sf_fill_store.specs.Forgets.{ForgetsNamed}
use Rattle.sf_fill.proofs.Fresh.{delivered, forget_moved}
use Rattle.sf_fill_store.proofs.Logging.{logs_again, logs_added, logs_these}

abbrev Seen : Type 0
Seen = List (Event ℕ Filled)

-- a Forget of the call that a place names
pub logs_forget : (c back : CallerValue Filled) (k by place : ℕ) (f : Forgot) (log after : LogValue) → after ≡ logged_by log (forgot_by by place f) → ForgetsNamed c k f back
    → by ≡ back.number → k ≡ place → HasLogged c.number c.seen back.seen log after
logs_forget c back k by place f log after logged forgot is at =
    let moved = forget_moved c back k f forgot in
    logs_added c.number c.seen back.seen (forgot_by c.number k f) log after moved.adds.grows.own
    (logged ∙ (ap (λ (p : ℕ). logged_by log (forgot_by by p f)) (sym at) ∙ ap (λ (i : ℕ). logged_by log (forgot_by i k f)) (is ∙ moved.number)))

-- what was owed
pub logs_delivered : (s m : Standing Filled) (log then : LogValue) → HasDelivered s m → then ≡ logged_by log (delivered_by s m) → HasLogged (number_of s) (seen_of s) (seen_of m) log then
logs_delivered s m log then owed is = logs_added (number_of s) (seen_of s) (seen_of m) (delivered_by s m) log then (delivered s m owed).grows.own is

-- what was owed, and what came then
pub logs_then : (s m : Standing Filled) (seen : Seen) (log then after : LogValue) → HasDelivered s m → then ≡ logged_by log (delivered_by s m) → HasLogged (number_of m) (seen_of m) seen then after
    → HasLogged (number_of s) (seen_of s) seen log after
logs_then s m seen log then after owed is more =
    logs_again (number_of s) (seen_of s) (seen_of m) seen log then after (logs_delivered s m log then owed is)
    (subst (λ (i : ℕ). HasLogged i (seen_of m) seen then after) (delivered s m owed).number more)

-- whatever was added is logged
logs_all : (s t : Standing Filled) (log after : LogValue) → HasLogged (number_of s) (seen_of s) (seen_of t) log after → (x : Seen) → HasAdded s t x → after ≡ logged_by log x
logs_all s t log after h x adds = logs_these (number_of s) (seen_of s) (seen_of t) x log after h adds.grows.own

module _ {L : Type 0} where
  -- a getter that settled up, and what came then
  pub logs_once : (old middle new : GetterValue L) → HasSettledUp old middle → middle.log ≡ logged_by old.log (delivered_by old.standing middle.standing)
      → HasLogged (number_of middle.standing) (seen_of middle.standing) (seen_of new.standing) middle.log new.log → (x : Seen) → HasAdded old.standing new.standing x → new.log ≡ logged_by old.log x
  logs_once old middle new settled handed more =
      logs_all old.standing new.standing old.log new.log (logs_then old.standing middle.standing (seen_of new.standing) old.log middle.log new.log settled.delivered handed more)

  -- after a getter that settled up
  pub logs_settled : (old middle : GetterValue L) (desk : KeyDesk) (standing new : Standing Filled) (loaders : L) (tallies : Totals) (log after : LogValue)
      → HasSettledUp old middle → middle.log ≡ logged_by old.log (delivered_by old.standing middle.standing)
      → record { desk = desk; standing = standing; loaders = loaders; counted = tallies; log = log } ≡ middle
      → HasLogged (number_of standing) (seen_of standing) (seen_of new) log after → (x : Seen) → HasAdded old.standing new x → after ≡ logged_by old.log x
  logs_settled old middle desk standing new loaders tallies log after settled handed is more =
      logs_all old.standing new old.log after
      (logs_then old.standing middle.standing (seen_of new) old.log middle.log after settled.delivered handed
      (subst (λ (m : GetterValue L). HasLogged (number_of m.standing) (seen_of m.standing) (seen_of new) m.log after) is more))
