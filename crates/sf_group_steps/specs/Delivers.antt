-- how letters are handed out
use Rattle.std.specs.Prelude.{◌≡◌, ℕ, ◌+◌, ◌≤◌, List, [], ◌∷◌, length, Option, Some, None, ◌⊎◌, is_some, true}
use Rattle.sf_history.specs.declared.call.CallId.{CallId}
use Rattle.sf_history.specs.declared.event.Event.{Event}
use Rattle.sf_history.specs.declared.event.Event.TheVariants as event
use Rattle.sf_steps_laws.specs.declared.letter.Letter.{Letter}
use Rattle.sf_steps_laws.specs.declared.operation.Stage.{Stage}
use Rattle.sf_steps_laws.specs.declared.operation.SettleStep.{SettleStep}
use Rattle.sf_steps_laws.specs.declared.operation.Stage.TheVariants as stage
use Rattle.sf_steps_laws.specs.Events.{handed}
use Rattle.sf_steps_laws.specs.Waiting.{IsListed}
use Rattle.sf_group_steps.specs.declared.actor.Actor.{Actor}
use Rattle.sf_group_steps.specs.declared.delivering.Delivery.{Delivery}
use Rattle.sf_group_steps.specs.declared.view.View.{View}
use Rattle.sf_group_steps.specs.View.{world_of}
use Rattle.sf_group_steps.specs.Settles.{call_of}

-- somebody is owed a letter
abbrev pub IsOwed : Option ℕ → Option CallId → Type 0
IsOwed top own = (is_some top ≡ true) ⊎ (is_some own ≡ true)

-- the events of handing letters to the members of a list
abbrev pub handed_list : {V : Type 0} → ℕ → CallId → Option CallId → Option ℕ → List (Event ℕ V)
handed_list a c own None = []
handed_list a c own (Some m) = handed a c own None

-- the events of a delivery: the call's letters are handed out, where any was owed
abbrev pub handed_later : {V : Type 0} → ℕ → CallId → Option CallId → Option ℕ → List (Event ℕ V)
handed_later a c None None = []
handed_later a c None (Some m) = event.Handed a c ∷ []
handed_later a c (Some o) top = event.Handed a c ∷ []

module _ {V : Type 0} where
  -- the leader's stage in its delivery
  abbrev pub at_step : Actor → Delivery → V → SettleStep → Stage V
  at_step r d x step = stage.Settling r.place d.generation d.own x step

  -- the list from this member on, as the view knows it
  abbrev pub Lists : Actor → Delivery → View V → Option ℕ → List CallId → Type 0
  Lists r d v top l = IsListed (world_of r.sizes v.known.turns) r.place (call_of r.number d.generation) top l

  -- the letter that a member gets
  abbrev pub letter_for : Actor → Delivery → V → Letter V
  letter_for r d x = record { place = r.place; call = call_of r.number d.generation; value = x; joiners = d.joiners }

  -- what is left of the list, after so many members
  abbrev pub Remains : Actor → Delivery → View V → Option ℕ → ℕ → Type 0
  Remains r d v top served = (l : List CallId) × Lists r d v top l × (length l + served + 1 ≤ r.sizes.callers)

  -- the seat carries the cell of this member alone
  abbrev pub IsOut : List (ℕ × Option (Letter V)) → ℕ → Type 0
  IsOut carried m = (y : Option (Letter V)) × (carried ≡ (m, y) ∷ [])
