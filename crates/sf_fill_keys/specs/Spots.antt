-- keys with their places, as contracts see them
use Rattle.std.proofs.Common.{◌≡◌, ◌≢◌, ℕ, inl, inr, List}
use Rattle.sf_dir.specs.declared.refusal.Refusal.{Refusal}
use Rattle.sf_keys_places.specs.Places.{place_of}
use Rattle.sf_fill_keys.specs.declared.key_place.KeyPlace.{KeyPlace}
use Rattle.sf_fill_keys.specs.declared.key_place.KeyPlace.TheVariants as at
use Rattle.sf_fill_keys.specs.declared.key_space.KeyDesk.{KeyDesk}
use Rattle.sf_fill_keys.specs.declared.key_space.KeyDesk.TheVariants as desk
use Rattle.sf_fill_keys.specs.declared.spot.Spot.{Spot}
use Rattle.sf_fill_keys.specs.declared.spot.Spot.TheVariants.{Directory, Hashed}
use Rattle.sf_fill_keys.specs.Resolving.{IsSeeing, IsPlaceOfKey, IsRefusedKey}
use Rattle.sf_fill_keys.specs.Spaces.{SpaceId}

abbrev pub spot_key : Spot → List ℕ
spot_key (Directory place) = place.key
spot_key (Hashed hashed) = hashed.key

abbrev pub spot_place : Spot → ℕ
spot_place (Directory place) = place.number
spot_place (Hashed hashed) = hashed.place

-- the key with the place at which it was found
abbrev pub spot_at : List ℕ → KeyPlace → Spot
spot_at key (at.Directory place) = Directory place
spot_at key (at.Hashed number) = Hashed (record { key = key; place = number })

abbrev pub place_at : KeyPlace → ℕ
place_at (at.Directory place) = place.number
place_at (at.Hashed number) = number

-- the spot is one of the space
abbrev pub IsInSpace : SpaceId → Spot → Type 0
IsInSpace (inl directory) (Directory place) = place.directory ≡ directory
IsInSpace (inl directory) (Hashed hashed) = ⊥
IsInSpace (inr places) (Directory place) = ⊥
IsInSpace (inr places) (Hashed hashed) = hashed.place ≡ place_of places hashed.key

-- two spots of one directory, or two hashed ones
abbrev pub AreOfOneSpace : Spot → Spot → Type 0
AreOfOneSpace (Directory p) (Directory q) = p.directory ≡ q.directory
AreOfOneSpace (Directory p) (Hashed q) = ⊥
AreOfOneSpace (Hashed p) (Directory q) = ⊥
AreOfOneSpace (Hashed p) (Hashed q) = Unit {0}

-- a spot may be of a key of the same place: a directory's always is, and a hashed one where its bytes are
abbrev pub MayBe : Spot → List ℕ → Type 0
MayBe (Directory place) key = Unit {0}
MayBe (Hashed hashed) key = hashed.key ≡ key

-- it is of another key, which a directory's never is
abbrev pub IsOther : Spot → List ℕ → Type 0
IsOther (Directory place) key = ⊥
IsOther (Hashed hashed) key = hashed.key ≢ key

-- the key's spot, which the desk has found
abbrev pub IsSpotOfKey : SpaceId → List ℕ → KeyDesk → KeyDesk → Spot → Type 0
IsSpotOfKey (inl directory) key (desk.Directory old) (desk.Directory new) (Directory place) = IsPlaceOfKey directory key old new place
IsSpotOfKey (inl directory) key (desk.Directory old) (desk.Directory new) (Hashed hashed) = ⊥
IsSpotOfKey (inl directory) key (desk.Directory old) desk.Hashed spot = ⊥
IsSpotOfKey (inl directory) key desk.Hashed new spot = ⊥
IsSpotOfKey (inr places) key old new (Directory place) = ⊥
IsSpotOfKey (inr places) key old new (Hashed hashed) = (hashed.key ≡ key) × (hashed.place ≡ place_of places key) × (new ≡ old)

-- the key is refused, which a hash does not do
abbrev pub IsRefusedSpot : SpaceId → List ℕ → KeyDesk → KeyDesk → Refusal → Type 0
IsRefusedSpot (inl directory) key (desk.Directory old) (desk.Directory new) refusal = IsRefusedKey directory key old new refusal
IsRefusedSpot (inl directory) key (desk.Directory old) desk.Hashed refusal = ⊥
IsRefusedSpot (inl directory) key desk.Hashed new refusal = ⊥
IsRefusedSpot (inr places) key old new refusal = ⊥

-- the desk stays the same one, and has seen a list of names, if it is a directory's
abbrev pub IsSeeingSpace : SpaceId → KeyDesk → KeyDesk → Type 0
IsSeeingSpace (inl directory) (desk.Directory old) (desk.Directory new) = IsSeeing directory old new
IsSeeingSpace (inl directory) (desk.Directory old) desk.Hashed = ⊥
IsSeeingSpace (inl directory) desk.Hashed new = ⊥
IsSeeingSpace (inr places) old new = new ≡ old
