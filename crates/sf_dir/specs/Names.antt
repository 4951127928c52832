-- Names: which key stands at which place, and which desk put it there.
use Rattle.std.specs.Prelude.{◌≡◌, ◌≢◌, ℕ, ◌≤◌, List, [], ◌∷◌, ◌++◌, ◌==◌, ◌⊎◌, All, AllPairs, Contains, filter}

pub record Name : Type 0 where
  pub place : ℕ
  pub key : List ℕ
  pub by : ℕ

-- a list of names in which no place and no key stands twice, at places of the directory and by desks of it
pub record IsNameList (keys desks : ℕ) (names : List Name) : Type 0 where
  pub within : All (λ n. (1 ≤ n.place) × (n.place ≤ keys) × (1 ≤ n.by) × (n.by ≤ desks)) names
  pub distinct_places : AllPairs (λ m n. m.place ≢ n.place) names
  pub distinct_keys : AllPairs (λ m n. m.key ≢ n.key) names

-- the new list begins with the old one
abbrev pub BeginsWith : List Name → List Name → Type 0
BeginsWith new old = (more : List Name) × (new ≡ old ++ more)

-- the names that a desk put there
abbrev pub names_by : ℕ → List Name → List Name
names_by desk names = filter (λ n. n.by == desk) names

-- the new list begins with the old one, and goes on with names of other desks alone
pub record AddsNone (desk : ℕ) (old new : List Name) : Type 0 where
  pub begins : BeginsWith new old
  pub own : names_by desk new ≡ names_by desk old

-- the new list begins with the old one, holds the name, and of names by the desk adds that one at most
pub record Finds (desk : ℕ) (old new : List Name) (place : ℕ) (key : List ℕ) : Type 0 where
  pub begins : BeginsWith new old
  pub by : ℕ
  pub stands : Contains new (record { place = place; key = key; by = by })
  pub own : (names_by desk new ≡ names_by desk old)
      ⊎ ((by ≡ desk) × (names_by desk new ≡ names_by desk old ++ record { place = place; key = key; by = by } ∷ []))

-- each place has a name with another key
abbrev pub IsFullFor : ℕ → List ℕ → List Name → Type 0
IsFullFor keys key names = (place : ℕ) → 1 ≤ place → place ≤ keys
    → (n : Name) × Contains names n × (n.place ≡ place) × (n.key ≢ key)
