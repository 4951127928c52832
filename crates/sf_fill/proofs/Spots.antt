-- spots of one key
use Rattle.std.proofs.Common.{◌≡◌, ℕ, List, Result, Ok, IfOk, inl, inr, sym, ◌∙◌, subst}
use Rattle.sf_dir.specs.declared.refusal.Refusal.{Refusal}
use Rattle.sf_fill_keys.specs.declared.key_place.KeyPlace.{KeyPlace}
use Rattle.sf_fill_keys.specs.declared.key_space.KeyDesk.{KeyDesk}
use Rattle.sf_fill_keys.specs.declared.spot.Spot.{Spot}
use Rattle.sf_fill_keys.specs.declared.spot.Spot.TheVariants.{Directory, Hashed}
use Rattle.sf_fill_keys.specs.Spaces.{SpaceId}
use Rattle.sf_fill_keys.specs.Spots.{AreOfOneSpace, IsInSpace, IsSpotOfKey, MayBe, spot_at, spot_key}

-- two spots of one space
pub of_one_space : (s : SpaceId) (p q : Spot) → IsInSpace s p → IsInSpace s q → AreOfOneSpace p q
of_one_space (inl d) (Directory p) (Directory q) a b = a ∙ sym b
of_one_space (inl d) (Directory p) (Hashed q) a b = absurd b
of_one_space (inl d) (Hashed p) q a b = absurd a
of_one_space (inr h) (Directory p) q a b = absurd a
of_one_space (inr h) (Hashed p) (Directory q) a b = absurd b
of_one_space (inr h) (Hashed p) (Hashed q) a b = tt

-- a spot may be of its own key
pub may_be_own : (p : Spot) (key : List ℕ) → spot_key p ≡ key → MayBe p key
may_be_own (Directory p) key is = tt
may_be_own (Hashed p) key is = is

-- the spot that a look in the key space found
pub found_spot : (s t : SpaceId) (key : List ℕ) (old middle new : KeyDesk) (r : Result KeyPlace Refusal) (at : KeyPlace) → s ≡ t → middle ≡ old → r ≡ Ok at
    → IfOk r (λ at. IsSpotOfKey s key middle new (spot_at key at)) → (spot : Spot) × IsSpotOfKey t key old new spot
found_spot s t key old middle new r at of is ok found =
    let here : IsSpotOfKey s key middle new (spot_at key at) = subst (λ (x : Result KeyPlace Refusal). IfOk x (λ at. IsSpotOfKey s key middle new (spot_at key at))) ok found in
    (spot_at key at, subst (λ (d : KeyDesk). IsSpotOfKey t key d new (spot_at key at)) is (subst (λ (u : SpaceId). IsSpotOfKey u key middle new (spot_at key at)) of here))
