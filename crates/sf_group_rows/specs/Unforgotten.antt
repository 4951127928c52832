-- calls that a place's Forgets have not passed
use Rattle.std.specs.Prelude.{◌≡◌, ℕ, nat_eq, Bool, false, ◌&&◌, List, ◌∷◌, ◌++◌, Option}
use Rattle.std.specs.List.{list_any}
use Rattle.sf_history.specs.declared.call.CallId.{CallId}
use Rattle.sf_history.specs.declared.event.Event.{Event}
use Rattle.sf_history.specs.declared.event.Event.TheVariants.{Lead, Enter, Forget, ForgetCall, Settle, Handed}
use Rattle.sf_history.specs.History.{has_ended}

module _ {V : Type 0} where
  -- the event is a Forget of the place, or a ForgetCall of it that closed or cleared
  abbrev pub forgets : ℕ → Event ℕ V → Bool
  forgets k (Lead by key call own) = false
  forgets k (Enter by key call member) = false
  forgets k (Forget by key closed) = nat_eq key k
  forgets k (ForgetCall by key call hit) = nat_eq key k && has_ended hit
  forgets k (Settle by call result joiners) = false
  forgets k (Handed by call) = false

  -- the call's Lead on the place stands in the list, and no Forget of the place after it
  pub record IsUnforgotten (k : ℕ) (c : CallId) (h : List (Event ℕ V)) : Type 0 where
    pub before : List (Event ℕ V)
    pub by : ℕ
    pub own : Option CallId
    pub after : List (Event ℕ V)
    pub led : h ≡ before ++ Lead by k c own ∷ after
    pub since : list_any (forgets k) after ≡ false
