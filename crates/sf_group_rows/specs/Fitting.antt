-- what values of settled calls fit
use Rattle.std.specs.Prelude.{◌≡◌, ℕ, Bool, false, List, Option, Some, None, find, option_and_then}
use Rattle.sf_history.specs.declared.call.CallId.{CallId}
use Rattle.sf_history.specs.declared.event.Event.{Event}
use Rattle.sf_history.specs.declared.event.Event.TheVariants.{Lead, Enter, Forget, ForgetCall, Settle, Handed}
use Rattle.sf_history.specs.Calls.{same_call}
use Rattle.sf_history.specs.History.{result_of}

-- a fact of a place, a call, a value and what happened so far
abbrev pub FitOf : Type 0 → Type 1
FitOf V = ℕ → CallId → V → List (Event ℕ V) → Type 0

module _ {V : Type 0} where
  -- the event is the Lead of the call
  abbrev pub is_lead : CallId → Event ℕ V → Bool
  is_lead c (Lead by key call own) = same_call call c
  is_lead c (Enter by key call member) = false
  is_lead c (Forget by key closed) = false
  is_lead c (ForgetCall by key call hit) = false
  is_lead c (Settle by call result joiners) = false
  is_lead c (Handed by call) = false

  -- the place that an event is on
  abbrev pub place_in : Event ℕ V → Option ℕ
  place_in (Lead by key call own) = Some key
  place_in (Enter by key call member) = Some key
  place_in (Forget by key closed) = Some key
  place_in (ForgetCall by key call hit) = Some key
  place_in (Settle by call result joiners) = None
  place_in (Handed by call) = None

  -- the place on which a call was led
  abbrev pub led_place : List (Event ℕ V) → CallId → Option ℕ
  led_place h c = option_and_then place_in (find (is_lead c) h)

  -- each settled call was led on a place, and its value fits there
  abbrev pub AllFit : FitOf V → List (Event ℕ V) → Type 0
  AllFit fits h = (c : CallId) (v : V) → result_of h c ≡ Some v → (k : ℕ) × (led_place h c ≡ Some k) × fits k c v h
