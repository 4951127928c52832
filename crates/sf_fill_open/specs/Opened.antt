-- what one who opens a fill asks for, and finds
use Rattle.std.specs.Prelude.{◌≡◌, ℕ, List, length, All}
use Rattle.std.specs.List.{enumerate_from, zip}
use Rattle.sf_group_rows.specs.Tokens.{GroupValue, CallerValue}
use Rattle.sf_group_rows.specs.Making.{IsNewCaller}
use Rattle.sf_fill_keys.specs.Spaces.{SpaceId}
use Rattle.sf_fill_store.specs.declared.standing.Standing.TheVariants.{Free}
use Rattle.sf_fill_values.specs.FillValue.{Filled}
use Rattle.sf_fill.specs.GetterValue.{GetterValue, with_loaders}
use Rattle.sf_fill_counters.specs.Ledgers.{nothing_counted}
use Rattle.sf_fill_store.specs.Logs.{empty_log}
use Rattle.sf_fill_open.specs.declared.sizes.Keys.{Keys}
use Rattle.sf_fill_open.specs.declared.sizes.Keys.TheVariants.{Directory, Hashed}

-- how many places there are for keys
abbrev pub places_for : Keys → ℕ
places_for (Directory of) = of.keys
places_for (Hashed places) = places.count

module _ {L : Type 0} where
  -- a getter of the group that owes nothing, has seen nothing, has counted nothing, and has logged none of the events that it has room for
  pub record IsNewGetter (g : GroupValue) (room : ℕ) (x : GetterValue L) : Type 0 where
    pub caller : CallerValue Filled
    pub fresh : IsNewCaller g caller
    pub free : x.standing ≡ Free caller
    pub counted : x.counted ≡ nothing_counted
    pub unlogged : x.log ≡ empty_log room

  -- the getter, as far as its loaders do not show
  abbrev pub without_loaders : GetterValue L → GetterValue (Unit {0})
  without_loaders x = with_loaders x tt

  -- a fact of each index, and of the getter and the part that stand there
  abbrev pub EachThread : {P : Type 0} → (ℕ → GetterValue (Unit {0}) → P → Type 0) → List (GetterValue L) → List P → Type 0
  EachThread gives getters parts = All (λ at. gives at.0 (without_loaders at.1.0) at.1.1) (enumerate_from 0 (zip getters parts))

module _ {P : Type 0} where
  -- each part stands at its index, and came of the work of some getter there
  abbrev pub EachPart : (ℕ → GetterValue (Unit {0}) → P → Type 0) → List P → Type 0
  EachPart gives parts = All (λ at. (getter : GetterValue (Unit {0})) × gives at.0 getter at.1) (enumerate_from 0 parts)

  -- an answer that a team gave on the parts of so many threads, over one key space and in one group
  abbrev pub IsOfThreads : {A : Type 0} → (SpaceId → GroupValue → ℕ → GetterValue (Unit {0}) → P → Type 0) → (List P → A → Type 0) → ℕ → A → Type 0
  IsOfThreads gives ends threads answer =
      (space : SpaceId) × (group : GroupValue) × (parts : List P) × (length parts ≡ threads) × EachPart (gives space group) parts × ends parts answer
