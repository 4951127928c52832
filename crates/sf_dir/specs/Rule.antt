-- The rule of the table: its words are those of one list of names, of which each seat has seen a beginning.
use Rattle.std.specs.Prelude.{◌≡◌, ◌≢◌, ℕ, zero, suc, ◌+◌, ◌<◌, ◌≤◌, ◌==◌, ◌⊎◌, Bool, cond, List, [], ◌∷◌, ◌++◌, map, length, slice_index, Some, None, is_some, Contains}
use Rattle.std.specs.List.{list_any}
use mathlib.Core.Option.{some}
use lib.ListN.{get_elem?}
use Rattle.atomic_table.specs.Table.{State}
use Rattle.sf_dir.specs.declared.rule.DirectorySizes.{DirectorySizes}
use Rattle.sf_dir.specs.declared.rule.Entry.{Entry}
use Rattle.sf_dir.specs.declared.rule.Spare.{Spare}
use Rattle.sf_dir.specs.declared.rule.View.{View}
use Rattle.sf_dir.specs.Names.{Name, IsNameList, names_by}
use Rattle.sf_dir.specs.KeyRow.{row_word, place_after}
use Rattle.sf_dir.specs.WordIndex.{row_width, row_count, counter_at, row_at, word_total}

-- the view of the seat that deals the desks out
abbrev pub first_view : DirectorySizes → View
first_view z = record { sizes = Some z; from = 1; to = z.desks + 1; seen = []; spare = None; told = [] }

-- what is left of it when a desk is dealt, and the desk's own
abbrev pub without_first : View → View
without_first v = record { sizes = v.sizes; from = v.from + 1; to = v.to; seen = v.seen; spare = None; told = v.told }

abbrev pub first_alone : View → View
first_alone v = record { sizes = v.sizes; from = v.from; to = v.from + 1; seen = v.seen; spare = None; told = [] }

-- a seat that shows what another has seen
abbrev pub note_of : View → View
note_of v = record { sizes = v.sizes; from = 0; to = 0; seen = v.seen; spare = None; told = [] }

-- a seat that has taken such a one in, and what it leaves
abbrev pub both_of : View → View → View
both_of v w = record { sizes = v.sizes; from = v.from; to = v.to; seen = v.seen; spare = v.spare; told = w.seen ∷ v.told }

abbrev pub blank : View
blank = record { sizes = None; from = 0; to = 0; seen = []; spare = None; told = [] }

abbrev pub StandsFor : View → ℕ → Type 0
StandsFor v desk = (v.from ≤ desk) × (desk < v.to)

-- entries as names
abbrev pub name_of : Entry → Name
name_of e = record { place = e.place; key = e.key; by = e.by }

abbrev pub names_of : List Entry → List Name
names_of h = map name_of h

abbrev pub own_names : ℕ → List Entry → List Name
own_names desk h = names_by desk (names_of h)

-- some entry stands at the place
abbrev pub IsNamed : List Entry → ℕ → Type 0
IsNamed h place = (e : Entry) × Contains h e × (e.place ≡ place)

-- the place is named with another key
abbrev pub IsTaken : List Entry → ℕ → List ℕ → Type 0
IsTaken h place key = (e : Entry) × Contains h e × (e.place ≡ place) × (e.key ≢ key)

-- what a place word says: no name, or the row of its name
abbrev pub IsPlaceWord : List Entry → ℕ → ℕ → Type 0
IsPlaceWord h place n = ((n ≡ 0) × ¬ (IsNamed h place))
    ⊎ ((e : Entry) × Contains h e × (e.place ≡ place) × (n ≡ e.row + 1))

-- the entry's place is on its key's walk, and each place before it there is named
abbrev pub IsOnWalk : DirectorySizes → List Entry → Entry → Type 0
IsOnWalk z h e = (passed : ℕ) × (passed < z.keys) × (e.place ≡ place_after z e.key passed)
    × ((k : ℕ) → k < passed → IsNamed h (place_after z e.key k))

abbrev pub IsKey : DirectorySizes → List ℕ → Type 0
IsKey z key = (length key ≤ z.key_bytes) × ((i : ℕ) → slice_index key i < 256)

-- a list that desks may have published: a list of names, each with a key that fits, in a row of the table, on its key's walk
pub record IsSound (z : DirectorySizes) (h : List Entry) : Type 0 where
  pub names : IsNameList z.keys z.desks (names_of h)
  pub keys : (e : Entry) → Contains h e → IsKey z e.key × (e.row < row_count z)
  pub walks : (e : Entry) → Contains h e → IsOnWalk z h e

-- how many of the numbers 1 to n pass
abbrev pub count_to : (ℕ → Bool) → ℕ → ℕ
count_to f zero = 0
count_to f (suc n) = cond (f (suc n)) 1 0 + count_to f n

-- the test of `IsNamed`
abbrev pub is_named : List Entry → ℕ → Bool
is_named h place = list_any (λ (e : Entry). e.place == place) h

abbrev pub IsPrefix : List Entry → List Entry → Type 0
IsPrefix old new = (more : List Entry) × (new ≡ old ++ more)

-- each list that was told is a beginning of this one
abbrev pub AllHeard : List Entry → List (List Entry) → Type 0
AllHeard h [] = Unit {0}
AllHeard h (t ∷ ts) = IsPrefix t h × AllHeard h ts

-- who has what: the desks' seats, the spare rows' seats, and which desks have a spare row
pub record Holders : Type 0 where
  pub seat_of : ℕ → ℕ
  pub keeper_of : ℕ → ℕ
  pub has_spare : ℕ → Bool

-- what is true of a seat's spare row
pub record IsSpare (z : DirectorySizes) (h : List Entry) (words : List ℕ) (drawn : ℕ) (o : Holders) (seat : ℕ) (v : View) (s : Spare)
    : Type 0 where
  pub is_drawn : s.row < drawn
  pub kept : o.keeper_of s.row ≡ seat
  pub alone : v.to ≡ v.from + 1
  pub unnamed : (e : Entry) → Contains h e → e.row ≢ s.row
  pub short : length s.words ≤ row_width z
  pub written : (i : ℕ) → i < length s.words
      → slice_index words (row_at z s.row + i) ≡ slice_index s.words i

-- what is true of a seat's view
pub record IsView (z : DirectorySizes) (h : List Entry) (words : List ℕ) (drawn : ℕ) (o : Holders) (seat : ℕ) (v : View) : Type 0 where
  pub sizes : (y : DirectorySizes) → v.sizes ≡ Some y → y ≡ z
  pub rest : List Entry
  pub splits : h ≡ v.seen ++ rest
  pub others : (desk : ℕ) → StandsFor v desk → own_names desk rest ≡ []
  pub desks : (desk : ℕ) → StandsFor v desk
      → (o.seat_of desk ≡ seat) × (1 ≤ desk) × (desk ≤ z.desks) × (o.has_spare desk ≡ is_some v.spare)
  pub told : AllHeard h v.told
  pub spare : (s : Spare) → v.spare ≡ Some s → IsSpare z h words drawn o seat v s

-- the table's words and views are those of this list
pub record Shows (z : DirectorySizes) (h : List Entry) (t : State ℕ View) : Type 0 where
  pub size : length t.words ≡ word_total z
  pub sound : IsSound z h
  pub places : (place : ℕ) → 1 ≤ place → place ≤ z.keys → IsPlaceWord h place (slice_index t.words place)
  pub rows : (e : Entry) → Contains h e → (i : ℕ) → i < row_width z
      → slice_index t.words (row_at z e.row + i) ≡ row_word e.key i
  pub drawn : ℕ
  pub counter : slice_index t.words (counter_at z) ≡ drawn
  pub used : (e : Entry) → Contains h e → e.row < drawn
  pub holders : Holders
  pub counts : drawn ≡ count_to (is_named h) z.keys + count_to holders.has_spare z.desks
  pub seats : (seat : ℕ) (v : View) → get_elem? t.views seat ≡ some v → IsView z h t.words drawn holders seat v

abbrev pub Holds : DirectorySizes → State ℕ View → Type 0
Holds z t = (h : List Entry) × Shows z h t
