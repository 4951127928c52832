-- the cells of letters: who may take one out of the table, and what lies in it
use Rattle.std.specs.Prelude.{◌≡◌, ℕ, ◌⊎◌, List, [], ◌∷◌, ◌++◌, Option, Some, None}
use mathlib.Core.Option as home
use mathlib.Core.Option.{none, some}
use lib.ListN.{get_elem?}
use Rattle.sf_history.specs.declared.call.CallId.{CallId}
use Rattle.sf_history.specs.declared.event.Event.{Event}
use Rattle.sf_steps_laws.specs.declared.letter.Letter.{Letter}
use Rattle.sf_steps_laws.specs.declared.operation.Stage.{Stage}
use Rattle.sf_steps_laws.specs.declared.operation.Stage.TheVariants as stage
use Rattle.sf_steps_laws.specs.declared.operation.SettleStep.{SettleStep}
use Rattle.sf_steps_laws.specs.declared.operation.SettleStep.TheVariants as settle
use Rattle.sf_steps_laws.specs.World.{World}
use Rattle.sf_group_rows.specs.Fitting.{FitOf}
use Rattle.sf_group_steps.specs.declared.view.View.{View}
use Rattle.sf_group_steps.specs.View.{Has}

-- what a step does with a cell: nothing; it takes one out; or it brings back the one that is out
pub data Handle : Type 0 where
  none_of : Handle
  take_one : ℕ → Handle
  give_one : ℕ → Handle

-- the cells that a seat has out after it
abbrev pub cells_after : Handle → List ℕ
cells_after none_of = []
cells_after (take_one k) = k ∷ []
cells_after (give_one k) = []

-- at such a step of a settle its maker has the cell for itself: the member's, to which it delivers
abbrev pub Serves : SettleStep → ℕ → Type 0
Serves (settle.Deliver joiners m next) k = m.caller ≡ k
Serves (settle.DeliverOwn joiners m) k = m.caller ≡ k
Serves _ k = ⊥

-- a place of the table for a cell
abbrev pub Home : Type 0 → Type 0
Home V = home.Option (Option (Letter V))

module _ {V : Type 0} where
  -- at this stage the caller has the cell for itself: its own while it is free, and that of the member to which it delivers
  abbrev pub Handling : Stage V → ℕ → ℕ → Type 0
  Handling stage.Free a k = a ≡ k
  Handling (stage.Settling place generation own value step) a k = Serves step k
  Handling _ a k = ⊥

  -- one of the callers has the cell for itself
  abbrev pub MayHold : List ℕ → World V → ℕ → Type 0
  MayHold who w k = (a : ℕ) × Has who a × Handling (w.stages a) a k

  -- the value of the letter fits with what happened
  abbrev pub FitsCell : FitOf V → List (Event ℕ V) → Option (Letter V) → Type 0
  FitsCell fits h None = Unit {0}
  FitsCell fits h (Some l) = fits l.place l.call l.value h

  -- what fits once fits from then on
  abbrev pub Lasts : FitOf V → Type 0
  Lasts fits = (k : ℕ) (c : CallId) (v : V) (h more : List (Event ℕ V)) → fits k c v h → fits k c v (h ++ more)

  -- a cell is at home, as the world has it, or a seat has it out
  abbrev pub IsCell : FitOf V → List (Event ℕ V) → World V → List (Home V) → List (View V) → ℕ → Type 0
  IsCell fits h w homes views k = ((get_elem? homes k ≡ some (some (w.cells k))) × FitsCell fits h (w.cells k))
      ⊎ ((get_elem? homes k ≡ some none) × ((seat : ℕ) × (v : View V) × (get_elem? views seat ≡ some v) × Has v.cells k))
