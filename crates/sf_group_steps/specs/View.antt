-- what seats know: claims of callers on the schedule
use Rattle.std.specs.Prelude.{◌≡◌, ℕ, ◌⊎◌, List, [], ◌∷◌, ◌++◌, Some, None, unwrap_or}
use Rattle.std.specs.List.{range_with_len}
use Rattle.sf_history.specs.declared.event.Event.{Event}
use Rattle.sf_steps_laws.specs.declared.turn.Turn.{Turn}
use Rattle.sf_steps_laws.specs.World.{World}
use Rattle.sf_steps_laws.specs.Named.{Names}
use Rattle.sf_steps_laws.specs.Events.{events_of, world_after}
use Rattle.sf_steps_laws.specs.Schedules.{Setting}
use Rattle.sf_group_rows.specs.declared.sizes.Sizes.{Sizes}
use Rattle.sf_group_steps.specs.declared.view.Claim.{Claim}
use Rattle.sf_group_steps.specs.declared.view.View.{View}

abbrev pub Has : List ℕ → ℕ → Type 0
Has [] a = ⊥
Has (b ∷ bs) a = (b ≡ a) ⊎ Has bs a

-- no caller stands twice
abbrev pub AreApart : List ℕ → Type 0
AreApart [] = Unit {0}
AreApart (a ∷ more) = (Has more a → ⊥) × AreApart more

abbrev pub rest_of : List ℕ → List ℕ
rest_of [] = []
rest_of (a ∷ more) = more

abbrev pub first_of_all : List ℕ → List ℕ
first_of_all [] = []
first_of_all (a ∷ more) = a ∷ []

abbrev pub setting_of : Sizes → Setting
setting_of z = record { callers = z.callers; places = z.places; first = z.first }

module _ {V : Type 0} where
  -- each turn names these callers alone
  abbrev pub AreBy : List ℕ → List (Turn V) → Type 0
  AreBy who [] = Unit {0}
  AreBy who (t ∷ ts) = ((b : ℕ) → Names t b → Has who b) × AreBy who ts

  abbrev pub claim : List ℕ → List (Turn V) → Claim V
  claim who s = record { callers = who; turns = s }

  abbrev pub callers_of : List (Claim V) → List ℕ
  callers_of [] = []
  callers_of (c ∷ cs) = c.callers ++ callers_of cs

  -- all callers that a seat stands for
  abbrev pub all_of : View V → List ℕ
  all_of v = v.known.callers ++ callers_of v.told

  abbrev pub sizes_of : View V → Sizes
  sizes_of v = unwrap_or v.sizes (record { places = 0; callers = 0; first = 0 })

  -- the view of the seat that deals the callers out
  abbrev pub first_view : Sizes → View V
  first_view z = record { sizes = Some z; known = claim (range_with_len 1 z.callers) []; told = []; cells = [] }

  -- what is left of a seat when its first caller gets one of its own, and that one
  abbrev pub without_first : View V → View V
  without_first v = record { sizes = v.sizes; known = claim (rest_of v.known.callers) v.known.turns; told = v.told; cells = [] }

  abbrev pub first_alone : View V → View V
  first_alone v = record { sizes = v.sizes; known = claim (first_of_all v.known.callers) v.known.turns; told = []; cells = [] }

  -- a seat that shows what another knows
  abbrev pub note_of : View V → View V
  note_of v = record { sizes = v.sizes; known = claim [] v.known.turns; told = []; cells = [] }

  -- a seat that has taken another in, and what that leaves
  abbrev pub both_of : View V → View V → View V
  both_of v w = record { sizes = v.sizes; known = v.known; told = v.told ++ w.known ∷ w.told; cells = v.cells }

  abbrev pub blank : View V
  blank = record { sizes = None; known = claim [] []; told = []; cells = [] }

  -- the world that a list of turns comes to, and its events
  abbrev pub world_of : Sizes → List (Turn V) → World V
  world_of z s = world_after z.callers z.first s

  abbrev pub history_of : Sizes → List (Turn V) → List (Event ℕ V)
  history_of z s = events_of z.callers z.first s
