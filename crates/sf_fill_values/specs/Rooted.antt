-- calls that are rooted in the run that loaded their bytes
use Rattle.std.specs.Prelude.{ℕ, List, [], ◌∷◌, ◌++◌, Option}
use Rattle.sf_history.specs.declared.call.CallId.{CallId}
use Rattle.sf_history.specs.declared.event.Event.{Event}
use Rattle.sf_history.specs.declared.event.Event.TheVariants.{Lead}
use Rattle.sf_group_rows.specs.Seen.{StartsWith}
use Rattle.sf_group_rows.specs.Unforgotten.{IsUnforgotten}

module _ {V : Type 0} where
  -- the call's Lead on the place stands in the list, and at or before it the root's, with no Forget of the place between them
  pub record IsRooted (k : ℕ) (root c : CallId) (h : List (Event ℕ V)) : Type 0 where
    pub before : List (Event ℕ V)
    pub by : ℕ
    pub own : Option CallId
    pub led : StartsWith h (before ++ Lead by k c own ∷ [])
    pub root_led : IsUnforgotten k root (before ++ Lead by k c own ∷ [])
