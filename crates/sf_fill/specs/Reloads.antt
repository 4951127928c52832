-- how reloads end
use Rattle.std.specs.Prelude.{◌≡◌, ℕ, ◌⊎◌, List, Result, Ok, Err}
use Rattle.sf_group_rows.specs.Tokens.{CallerValue}
use Rattle.sf_fill_keys.specs.declared.key_space.KeyDesk.{KeyDesk}
use Rattle.sf_fill_keys.specs.declared.spot.Spot.{Spot}
use Rattle.sf_fill_keys.specs.Spaces.{SpaceId}
use Rattle.sf_fill_keys.specs.Spots.{IsSpotOfKey, IsRefusedSpot, IsSeeingSpace, spot_place}
use Rattle.sf_dir.specs.declared.refusal.Refusal.{Refusal}
use Rattle.sf_fill_values.specs.declared.fault.LoadFault.{LoadFault}
use Rattle.sf_fill_values.specs.declared.fault.LoadFault.TheVariants as fault
use Rattle.sf_fill_store.specs.declared.forget.Forgot.{Forgot}
use Rattle.sf_fill_store.specs.declared.standing.Standing.{Standing}
use Rattle.sf_fill_store.specs.declared.standing.Standing.TheVariants.{Free, Owing}
use Rattle.sf_fill_values.specs.FillValue.{Filled}
use Rattle.sf_fill_values.specs.Answers.{refusal_of}
use Rattle.sf_fill.specs.GetterValue.{GetterValue}
use Rattle.sf_fill.specs.Owing.{HasSettledUp}
use Rattle.sf_fill_store.specs.Forgets.{ForgetsNamed}

module _ (space : SpaceId) (key : List ℕ) where
  -- the key is refused, and nothing is forgotten
  pub record IsRefusedReload (c : CallerValue Filled) (desk after : KeyDesk) (standing : Standing Filled) (answer : Result Forgot LoadFault) : Type 0 where
    pub refusal : Refusal
    pub cause : IsRefusedSpot space key desk after refusal
    pub still : standing ≡ Free c
    pub answer_is : answer ≡ Err (refusal_of refusal)

  -- the caller forgot the call that the key's place names
  pub record HasForgottenKey (c : CallerValue Filled) (desk after : KeyDesk) (standing : Standing Filled) (answer : Result Forgot LoadFault) : Type 0 where
    pub spot : Spot
    pub resolved : IsSpotOfKey space key desk after spot
    pub back : CallerValue Filled
    pub came_to : Forgot
    pub forgot : ForgetsNamed c (spot_place spot) came_to back
    pub free : standing ≡ Free back
    pub answer_is : answer ≡ Ok came_to

  -- the reload of a caller that has settled up; where it owes letters still, it is refused
  abbrev pub ReloadsFrom : Standing Filled → KeyDesk → KeyDesk → Standing Filled → Result Forgot LoadFault → Type 0
  ReloadsFrom (Owing s) desk after standing answer = (after ≡ desk) × (standing ≡ Owing s) × (answer ≡ Err fault.Memory)
  ReloadsFrom (Free c) desk after standing answer =
      IsSeeingSpace space desk after × (IsRefusedReload c desk after standing answer ⊎ HasForgottenKey c desk after standing answer)

module _ {L : Type 0} (space : SpaceId) (key : List ℕ) where
  -- what was owed is delivered first, if it can be; nothing is counted
  pub record HasReloaded (old new : GetterValue L) (answer : Result Forgot LoadFault) : Type 0 where
    pub middle : GetterValue L
    pub settled : HasSettledUp old middle
    pub reloaded : ReloadsFrom space key middle.standing middle.desk new.desk new.standing answer
    pub rest : new ≡ record middle { desk = new.desk; standing = new.standing; log = new.log }
