-- what a getter's desk finds of a key
use Rattle.std.specs.Prelude.{◌≡◌, ℕ, ◌<◌, ◌≤◌, List, length}
use Rattle.sf_dir.specs.Known.{DirectoryId, DeskState, PlaceState, IsSameDesk}
use Rattle.sf_dir.specs.Names.{IsNameList, AddsNone, Finds, IsFullFor}
use Rattle.sf_dir.specs.declared.refusal.Refusal.{Refusal}
use Rattle.sf_dir.specs.declared.refusal.Refusal.TheVariants.{KeyTooLong, Full}

-- the key's place, which its desk has seen
pub record IsPlaceOfKey (d : DirectoryId) (key : List ℕ) (old new : DeskState) (p : PlaceState) : Type 0 where
  pub short : length key ≤ d.key_bytes
  pub directory : p.directory ≡ d
  pub key_is : p.key ≡ key
  pub found : Finds old.number old.seen new.seen p.number key

-- each place has another key
pub record IsFull (d : DirectoryId) (key : List ℕ) (old new : DeskState) : Type 0 where
  pub short : length key ≤ d.key_bytes
  pub full : IsFullFor d.keys key new.seen
  pub none : AddsNone old.number old.seen new.seen

abbrev pub IsRefusedKey : DirectoryId → List ℕ → DeskState → DeskState → Refusal → Type 0
IsRefusedKey d key old new KeyTooLong = (d.key_bytes < length key) × (new ≡ old)
IsRefusedKey d key old new Full = IsFull d key old new

-- the desk stays the same one, and has seen a list of names
pub record IsSeeing (d : DirectoryId) (old new : DeskState) : Type 0 where
  pub same : IsSameDesk old new
  pub names : IsNameList d.keys d.desks new.seen
