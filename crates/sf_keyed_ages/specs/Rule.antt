-- The rule of the table of ages, and what its steps tell.
use Rattle.std.specs.Prelude.{◌≡◌, ◌≢◌, ℕ, ◌≤◌, ◌==◌, ◌&&◌, true, List, [], ◌∷◌, ◌++◌, length, slice_index}
use Rattle.std.specs.List.{list_any}
use mathlib.Core.Option.{some}
use lib.ListN.{get_elem?}
use Rattle.atomic_table.specs.Table.{State, Me, Step}
use Rattle.sf_keyed_ages.specs.declared.rule.Fact.{Fact}
use Rattle.sf_keyed_ages.specs.declared.rule.Known.{Known}

-- that the slot has had this age is among the facts
abbrev pub Has : List Fact → ℕ → ℕ → Type 0
Has facts slot age = list_any (λ f. (f.slot == slot) && (f.age == age)) facts ≡ true

abbrev pub nothing : Known
nothing = record { facts = [] }

abbrev pub with_fact : Known → ℕ → ℕ → Known
with_fact v slot age = record { facts = record { slot = slot; age = age } ∷ v.facts }

-- what two seats know
abbrev pub with_facts : Known → Known → Known
with_facts v w = record { facts = w.facts ++ v.facts }

-- no slot is younger than some seat knows
pub record HoldsAges (slots : ℕ) (s : State (Unit {0}) Known) : Type 0 where
  pub size : length s.words ≡ slots
  pub grown : (id : ℕ) (v : Known) → get_elem? s.views id ≡ some v → (slot age : ℕ) → Has v.facts slot age → age ≤ slice_index s.words slot

-- a new seat knows nothing
abbrev pub sits : Step (Unit {0}) → Me (Unit {0}) Known → ℕ → Me (Unit {0}) Known → Type 0
sits step before found after = after.0 ≡ nothing

-- a seat learns the age of a slot, which is no less than any that it knew
abbrev pub sees : Step (Unit {0}) → Me (Unit {0}) Known → ℕ → Me (Unit {0}) Known → Type 0
sees step before found after = (after ≡ (with_fact before.0 step.word found, before.1)) × ((age : ℕ) → Has before.0.facts step.word age → age ≤ found)

-- whoever comes first, the slot has the new age then, or a greater one
abbrev pub ends : Step (Unit {0}) → Me (Unit {0}) Known → ℕ → Me (Unit {0}) Known → Type 0
ends step before found after = (after ≡ (with_fact before.0 step.word step.second, before.1)) × (found ≢ step.first → step.second ≤ found)
