-- What one caller tells another of a chain.
use Rattle.std.specs.Prelude.{◌≡◌, ℕ, List, length, slice_get, Some}
use Rattle.sf_keyed_ages.specs.Stamps.{AgesState, KnowsOn}
use Rattle.sf_keyed_words.specs.Rule.{IsPrefix}
use Rattle.sf_keyed.specs.Known.{NoteState}
use Rattle.sf_keyed_chain.specs.Chains.{Sight}

-- what a caller had seen of one table
pub record ToldState : Type 0 where
  pub cell : ℕ
  pub seen : NoteState
  pub known : AgesState

abbrev pub told_of : Sight → ToldState
told_of s = record { cell = s.cell; seen = record { group = s.front.group; seen = s.front.seen }; known = s.known }

-- the note tells of each table what the caller had seen of it, and of no other
pub record IsNoteOf (sights : List Sight) (note : List ToldState) : Type 0 where
  pub count : length note ≡ length sights
  pub tells : (i : ℕ) (s : Sight) → slice_get sights i ≡ Some s → slice_get note i ≡ Some (told_of s)

-- it is one of this chain
abbrev pub IsToldOf : List ℕ → List ToldState → Type 0
IsToldOf cells note = (i : ℕ) (t : ToldState) → slice_get note i ≡ Some t → slice_get cells i ≡ Some t.cell

-- whoever heard it has seen all that was told, and knows it
pub record HasHeard (told : ToldState) (sight : Sight) : Type 0 where
  pub seen : IsPrefix told.seen.seen sight.front.seen
  pub known : KnowsOn told.known sight.known

abbrev pub HasLearned : List ToldState → List Sight → Type 0
HasLearned note new = (i : ℕ) (t : ToldState) → slice_get note i ≡ Some t → (s : Sight) × (slice_get new i ≡ Some s) × HasHeard t s
