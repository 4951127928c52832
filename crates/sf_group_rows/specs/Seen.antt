-- what a call adds to what a caller has seen
use Rattle.std.specs.Prelude.{◌≡◌, ℕ, ◌+◌, ◌<◌, ◌≤◌, nat_eq, List, ◌∷◌, ◌++◌, All}
use Rattle.sf_history.specs.declared.call.CallId.{CallId}
use Rattle.sf_history.specs.declared.event.Event.{Event}
use Rattle.sf_history.specs.History.{maker, next_generation, own_events}
use Rattle.sf_history.specs.Legal.{IsLegal}
use Rattle.sf_group_rows.specs.declared.sizes.Sizes.{Sizes}
use Rattle.sf_group_rows.specs.Tokens.{GroupValue}

module _ {V : Type 0} where
  -- the list begins with what was seen
  abbrev pub StartsWith : List (Event ℕ V) → List (Event ℕ V) → Type 0
  StartsWith h seen = (rest : List (Event ℕ V)) × (h ≡ seen ++ rest)

  -- the event stands in the list
  abbrev pub Stands : Event ℕ V → List (Event ℕ V) → Type 0
  Stands e h = (before : List (Event ℕ V)) × (after : List (Event ℕ V)) × (h ≡ before ++ e ∷ after)

  -- each event was made by one of the group's callers
  abbrev pub AreMade : Sizes → List (Event ℕ V) → Type 0
  AreMade z h = All (λ e. (0 < maker e) × (maker e ≤ z.callers)) h

  -- the list is a legal history of a group of these sizes
  pub record IsLawful (z : Sizes) (h : List (Event ℕ V)) : Type 0 where
    pub legal : IsLegal nat_eq h
    pub made : AreMade z h

  abbrev pub next_of : GroupValue → ℕ → List (Event ℕ V) → ℕ
  next_of g a h = next_generation g.sizes.first h a

  -- the caller's next call or member
  abbrev pub next_call : GroupValue → ℕ → List (Event ℕ V) → CallId
  next_call g a h = record { caller = a; generation = next_of g a h }

  -- the caller has seen more, in which it made these events and got so many generations
  pub record Grows (g : GroupValue) (a : ℕ) (old new x : List (Event ℕ V)) (given : ℕ) : Type 0 where
    pub begins : StartsWith new old
    pub own : own_events a new ≡ own_events a old ++ x
    pub next : next_of g a new ≡ next_of g a old + given

  -- a call adds these events for the caller: it has seen a legal history of the group's callers
  pub record Adds (g : GroupValue) (a : ℕ) (old new x : List (Event ℕ V)) (given : ℕ) : Type 0 where
    pub grows : Grows g a old new x given
    pub lawful : IsLawful g.sizes new
