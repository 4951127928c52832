-- which call a flight's call follows
use Rattle.std.specs.Prelude.{◌≡◌, List, [], ◌∷◌, ◌++◌, Option, nat_eq, ℕ}
use Rattle.sf_history.specs.declared.call.CallId.{CallId}
use Rattle.sf_history.specs.declared.event.Event.{Event}
use Rattle.sf_history.specs.declared.event.Event.TheVariants as event
use Rattle.sf_history.specs.History.{current_call}
use Rattle.sf_group_rows.specs.Tokens.{FlightValue}
use Rattle.sf_group_rows.specs.Seen.{StartsWith}

module _ {V : Type 0} where
  -- in what the leader has seen this call was the place's current one before the Lead of its own
  pub record FollowsCall (f : FlightValue V) (after : Option CallId) : Type 0 where
    pub before : List (Event ℕ V)
    pub led : StartsWith f.seen (before ++ event.Lead f.number f.place f.call f.own ∷ [])
    pub current : current_call nat_eq before f.place ≡ after
