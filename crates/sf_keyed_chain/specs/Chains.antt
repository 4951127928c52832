-- What a caller has seen of a chain of tables: of each table that it knows, what a caller of that group has seen.
use Rattle.std.specs.Prelude.{◌≡◌, ◌≢◌, ℕ, ◌<◌, ◌≤◌, Bool, List, length, slice_get, slice_index, Some, ◌⊎◌}
use Rattle.sf_keyed_ages.specs.Rule.{Has}
use Rattle.sf_keyed_ages.specs.Stamps.{AgesId, AgesState, IsEnded, IsEndedAt, IsNotStill, KnowsOn}
use Rattle.sf_keyed_words.specs.Rule.{slot_of, IsPrefix}
use Rattle.sf_keyed.specs.Known.{FlightState, FrontState, GroupId, IsGone}

-- one table of a chain, and its ages
pub record LevelId : Type 0 where
  pub group : GroupId
  pub ages : AgesId

-- what a caller has seen of one table: the cell that it was published in, its calls, its ages, how many of its hash slots the caller has swept, and whether those are all
pub record Sight : Type 0 where
  pub cell : ℕ
  pub front : FrontState
  pub known : AgesState
  pub swept : ℕ
  pub done : Bool

-- the cells of the chain, where its tables are published, and the sights of the first of them, which is there from the beginning
pub record IsOf (cells : List ℕ) (sights : List Sight) : Type 0 where
  pub some : 0 < length sights
  pub few : length sights ≤ length cells
  pub cells_are : (i : ℕ) (s : Sight) → slice_get sights i ≡ Some s → s.cell ≡ slice_index cells i

-- what was seen goes on, and what was gone is so still
pub record GoesOn (old new : FrontState) : Type 0 where
  pub group : new.group ≡ old.group
  pub number : new.number ≡ old.number
  pub seen : IsPrefix old.seen new.seen
  pub gone : (k : ℕ) → IsGone old k → IsGone new k

-- the same of a table
pub record IsLater (old new : Sight) : Type 0 where
  pub cell : new.cell ≡ old.cell
  pub on : GoesOn old.front new.front
  pub ages : KnowsOn old.known new.known

-- and the caller's spare cell is as before
pub record IsHeard (old new : Sight) : Type 0 where
  pub later : IsLater old new
  pub spare : new.front.spare ≡ old.front.spare

-- each table that was known is known still, as the same one, and what was seen of it goes on
abbrev pub AllGoOn : List Sight → List Sight → Type 0
AllGoOn old new = (i : ℕ) (s : Sight) → slice_get old i ≡ Some s → (t : Sight) × (slice_get new i ≡ Some t) × IsLater s t

abbrev pub AllHeard : List Sight → List Sight → Type 0
AllHeard old new = (i : ℕ) (s : Sight) → slice_get old i ≡ Some s → (t : Sight) × (slice_get new i ≡ Some t) × IsHeard s t

-- in this table the name is gone
pub record IsGoneHere (k at : ℕ) (sights : List Sight) : Type 0 where
  pub sight : Sight
  pub here : slice_get sights at ≡ Some sight
  pub gone : IsGone sight.front k

-- in each table before this one the name is gone
abbrev pub IsGoneBefore : ℕ → ℕ → List Sight → Type 0
IsGoneBefore k at sights = (i : ℕ) → i < at → IsGoneHere k i sights

-- a call on the table of this number: what its caller had seen of the table before it, once it had passed the tables before, and what it has seen after it; of the others it has seen no more
pub record Called (so : FrontState → FrontState → Type 0) (at : ℕ) (old new : List Sight) : Type 0 where
  pub between : List Sight
  pub heard : AllHeard old between
  pub before : Sight
  pub after : Sight
  pub at_before : slice_get between at ≡ Some before
  pub at_after : slice_get new at ≡ Some after
  pub later : IsLater before after
  pub is : so before.front after.front
  pub rest : (i : ℕ) → i ≢ at → slice_get new i ≡ slice_get between i

-- a call that is led, or held: the number of its table, the cell where that was published, and the call
pub record TokenState : Type 0 where
  pub table : ℕ
  pub cell : ℕ
  pub call : FlightState

-- it is one of this chain
abbrev pub IsTokenOf : List ℕ → TokenState → Type 0
IsTokenOf cells t = slice_get cells t.table ≡ Some t.cell

-- a stamp of the name: in the table of this number its slot has had this age, and no greater one was known
pub record IsStampOf (k table slot age : ℕ) (old new : List Sight) : Type 0 where
  pub sight : Sight
  pub here : slice_get new table ≡ Some sight
  pub slot_is : slot ≡ slot_of sight.front.group.sizes k
  pub has : Has sight.known.facts slot age
  pub newest : (s : Sight) → slice_get old table ≡ Some s → (known : ℕ) → Has s.known.facts slot known → known ≤ age

-- a Forget has ended what was stamped before at the slot, or the slot's age is spent, so that nothing there is current
abbrev pub EndsAt : AgesState → AgesState → ℕ → Type 0
EndsAt old new slot = IsEnded old new slot ⊎ IsEndedAt new slot 4611686018427387903

-- what was stamped at the slot at this age is ended, or was not current before; or there is no such slot
abbrev pub EndsStamp : Sight → ℕ → ℕ → Type 0
EndsStamp sight slot age = (sight.front.group.sizes.tops ≤ slot) ⊎ (IsEndedAt sight.known slot age ⊎ IsNotStill sight.known slot age)

-- in the table of this number a Forget of the name has ended what was stamped before
pub record IsEndedIn (k at : ℕ) (old new : List Sight) : Type 0 where
  pub sight : Sight
  pub here : slice_get new at ≡ Some sight
  pub before : AgesState
  pub after : AgesState
  pub was : (s : Sight) → slice_get old at ≡ Some s → KnowsOn s.known before
  pub ends : EndsAt before after (slot_of sight.front.group.sizes k)
  pub on : KnowsOn after sight.known

-- in each table before this one
abbrev pub IsEndedBefore : ℕ → ℕ → List Sight → List Sight → Type 0
IsEndedBefore k at old new = (i : ℕ) → i < at → IsEndedIn k i old new

-- A call by a token on the table of this group. Where the caller knows that table, it goes by what it has seen of it. Where it does not, it goes by what a new caller sees, and learns nothing by it
pub record CalledBy (so : FrontState → FrontState → Type 0) (at : ℕ) (group : GroupId) (old new : List Sight) : Type 0 where
  pub between : List Sight
  pub heard : AllHeard old between
  pub before : FrontState
  pub after : FrontState
  pub group_is : before.group ≡ group
  pub later : GoesOn before after
  pub is : so before after
  pub near : (s : Sight) → slice_get between at ≡ Some s → (before ≡ s.front) × (t : Sight) × (slice_get new at ≡ Some t) × (t.front ≡ after)
  pub rest : (i : ℕ) → i ≢ at → slice_get new i ≡ slice_get between i
