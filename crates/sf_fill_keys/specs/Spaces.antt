-- where keys have their places, as contracts see it
use Rattle.std.proofs.Common.{◌≡◌, ℕ, ◌⊎◌, inl, inr, List, All, map}
use Rattle.sf_dir.specs.Known.{DirectoryId, DeskState}
use Rattle.sf_keys_places.specs.declared.places.Places.{Places}
use Rattle.sf_fill_keys.specs.declared.key_space.KeyDesk.{KeyDesk}
use Rattle.sf_fill_keys.specs.declared.key_space.KeyDesk.TheVariants as desk
use Rattle.sf_fill_keys.specs.declared.key_space.KeySpace.{KeySpace}
use Rattle.sf_fill_keys.specs.declared.key_space.KeySpace.TheVariants as space

-- a directory, or so many places with a seed
abbrev pub SpaceId : Type 0
SpaceId = DirectoryId ⊎ Places

abbrev pub space_of : KeySpace → SpaceId
space_of (space.Directory directory) = inl directory.now
space_of (space.Hashed places) = inr places

abbrev pub places_in : SpaceId → ℕ
places_in (inl directory) = directory.keys
places_in (inr places) = places.count

-- a desk that looks keys up there
abbrev pub IsDeskOf : SpaceId → KeyDesk → Type 0
IsDeskOf (inl directory) (desk.Directory d) = d.directory ≡ directory
IsDeskOf (inl directory) desk.Hashed = ⊥
IsDeskOf (inr places) (desk.Directory d) = ⊥
IsDeskOf (inr places) desk.Hashed = Unit {0}

abbrev pub AreDesksOf : SpaceId → List KeyDesk → Type 0
AreDesksOf s desks = All (IsDeskOf s) desks

-- the directory's desks, in their order
abbrev pub by_directory : List DeskState → List KeyDesk
by_directory desks = map desk.Directory desks
