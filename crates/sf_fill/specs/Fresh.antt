-- what getters add to the history, and how fresh their answers are
use Rattle.std.proofs.Common.{◌≡◌, ◌≢◌, ℕ, inl, inr, All, nat_eq, Bool, true, false, cond, not, ◌⊎◌, List, [], ◌∷◌, ◌++◌, Some, None, Result, Ok, Err}
use Rattle.sf_history.specs.declared.call.CallId.{CallId}
use Rattle.sf_history.specs.declared.event.Event.{Event}
use Rattle.sf_history.specs.declared.event.Event.TheVariants.{Lead, Enter, Settle, Handed}
use Rattle.sf_history.specs.History.{current_call}
use Rattle.sf_group_rows.specs.Tokens.{LetterValue}
use Rattle.sf_group_rows.specs.Seen.{StartsWith, Stands, IsLawful, Grows}
use Rattle.sf_fill_keys.specs.declared.spot.Spot.{Spot}
use Rattle.sf_fill_keys.specs.Spaces.{SpaceId}
use Rattle.sf_fill_keys.specs.Spots.{IsOther, IsSpotOfKey, spot_place}
use Rattle.sf_loaders.specs.declared.faults.LocalFault.TheVariants as local
use Rattle.sf_fill_values.specs.declared.fault.LoadFault.{LoadFault}
use Rattle.sf_fill_values.specs.declared.fault.LoadFault.TheVariants as fault
use Rattle.sf_fill_store.specs.declared.forget.Forgot.{Forgot}
use Rattle.sf_fill_store.specs.declared.standing.Standing.{Standing}
use Rattle.sf_fill_store.specs.declared.standing.Standing.TheVariants.{Free, Owing}
use Rattle.sf_fill.specs.Counted.{askings_in}
use Rattle.sf_fill_values.specs.FillValue.{Filled}
use Rattle.sf_fill_values.specs.Answers.{GetAnswer}
use Rattle.sf_fill_store.specs.Logs.{logged_by}
use Rattle.sf_fill_store.specs.Forgets.{forgot_by}
use Rattle.sf_fill.specs.GetterValue.{GetterValue}
use Rattle.sf_fill_store.specs.Standings.{number_of, group_of, seen_of, is_owing}
use Rattle.sf_group_rows.specs.Unforgotten.{IsUnforgotten}

-- A caller that stays the same has seen more, in which it made these events, with a generation for each asking among them. All
-- that it has seen is a legal history of the group's callers, or what it was.
pub record HasAdded (old new : Standing Filled) (added : List (Event ℕ Filled)) : Type 0 where
  pub group : group_of new ≡ group_of old
  pub number : number_of new ≡ number_of old
  pub grows : Grows (group_of old) (number_of old) (seen_of old) (seen_of new) added (askings_in added)
  pub lawful : (seen_of new ≡ seen_of old) ⊎ IsLawful (group_of old).sizes (seen_of new)

-- the letters that were owed are handed out, if that is so
abbrev pub handed_by : Standing Filled → Bool → List (Event ℕ Filled)
handed_by (Free c) done = []
handed_by (Owing s) done = cond done (Handed s.number s.call ∷ []) []

-- what is handed out where the caller then stands so, before it does anything else
abbrev pub delivered_by : Standing Filled → Standing Filled → List (Event ℕ Filled)
delivered_by old middle = handed_by old (not (is_owing middle))

-- A letter of the place. Its call stands settled so in what its getter has then seen; at a moment after all that it had seen,
-- the call was current, and its value's root led the place before, with no Forget since.
pub record IsFresh (k : ℕ) (old new : List (Event ℕ Filled)) (l : LetterValue Filled) : Type 0 where
  pub place : l.place ≡ k
  pub settled : Stands (Settle l.call.caller l.call l.value l.joiners) new
  pub moment : List (Event ℕ Filled)
  pub begins : StartsWith moment old
  pub within : StartsWith new moment
  pub current : current_call nat_eq moment k ≡ Some l.call
  pub rooted : IsUnforgotten k l.value.root moment

-- An asking for a call of the place: none; an Enter; or a Lead and the Settle of the call, and unless letters are owed then
-- the Handed.
pub record IsRun (by k : ℕ) (call : CallId) (owes : Bool) (added : List (Event ℕ Filled)) : Type 0 where
  pub value : Filled
  pub joiners : ℕ
  pub is : added ≡ Lead by k call None ∷ Settle by call value joiners ∷ cond owes [] (Handed by call ∷ [])

abbrev pub IsAsking : ℕ → ℕ → CallId → Bool → List (Event ℕ Filled) → Type 0
IsAsking by k call owes added = (added ≡ []) ⊎ (((member : CallId) × (added ≡ Enter by k call member ∷ [])) ⊎ IsRun by k call owes added)

-- an Enter of a call of another key of the place, which stands settled so
pub record IsMissedEnter (by k : ℕ) (key : List ℕ) (seen : List (Event ℕ Filled)) (e : Event ℕ Filled) : Type 0 where
  pub call : CallId
  pub member : CallId
  pub is : e ≡ Enter by k call member
  pub value : Filled
  pub joiners : ℕ
  pub settled : Stands (Settle call.caller call value joiners) seen
  pub other : IsOther value.spot key

-- the askings that met other keys' calls: none where each place is of one key
abbrev pub AreMissed : SpaceId → ℕ → ℕ → List ℕ → List (Event ℕ Filled) → List (Event ℕ Filled) → Type 0
AreMissed (inl directory) by k key seen missed = missed ≡ []
AreMissed (inr places) by k key seen missed = All (IsMissedEnter by k key seen) missed

-- what a get answers with this call: a fresh letter of it, or the fault of one; a refusal adds nothing
abbrev pub IsAnswer : ℕ → CallId → List (Event ℕ Filled) → List (Event ℕ Filled) → List (Event ℕ Filled) → GetAnswer → Type 0
IsAnswer k call old new added (Ok l) = (l.call ≡ call) × IsFresh k old new l
IsAnswer k call old new added (Err (fault.Local text)) = (l : LetterValue Filled) × (l.value.result ≡ Err (local.Failed text)) × (l.call ≡ call) × IsFresh k old new l
IsAnswer k call old new added (Err (fault.Refused refusal)) = added ≡ []
IsAnswer k call old new added (Err fault.LeaderMemory) = (l : LetterValue Filled) × (l.value.result ≡ Err local.Memory) × (l.call ≡ call) × IsFresh k old new l
IsAnswer k call old new added (Err fault.Memory) = Unit {0}

-- a get that neither asks nor answers a letter
abbrev pub IsUnanswered : List (Event ℕ Filled) → GetAnswer → Type 0
IsUnanswered added (Ok l) = ⊥
IsUnanswered added (Err (fault.Local text)) = ⊥
IsUnanswered added (Err fault.LeaderMemory) = ⊥
IsUnanswered added (Err (fault.Refused refusal)) = added ≡ []
IsUnanswered added (Err fault.Memory) = added ≡ []

-- the call that was current in what had been seen is not current in what is seen then
abbrev pub IsOutdated : ℕ → List (Event ℕ Filled) → List (Event ℕ Filled) → Type 0
IsOutdated k old new = (c : CallId) → current_call nat_eq old k ≡ Some c → current_call nat_eq new k ≢ Some c

module _ {L : Type 0} (space : SpaceId) (key : List ℕ) where
  -- the key has a place, of which this call was asked for or found, after calls of other keys of the place that were joined
  pub record IsAnswered (old new : GetterValue L) (added : List (Event ℕ Filled)) (answer : GetAnswer) : Type 0 where
    pub spot : Spot
    pub resolved : IsSpotOfKey space key old.desk new.desk spot
    pub missed : List (Event ℕ Filled)
    pub others : AreMissed space (number_of old.standing) (spot_place spot) key (seen_of new.standing) missed
    pub asking : List (Event ℕ Filled)
    pub parts : added ≡ missed ++ asking
    pub call : CallId
    pub asked : IsAsking (number_of old.standing) (spot_place spot) call (is_owing new.standing) asking
    pub answered : IsAnswer (spot_place spot) call (seen_of old.standing) (seen_of new.standing) asking answer

  -- what was owed is handed out first, or nothing further is done
  pub record IsFreshGet (old new : GetterValue L) (answer : GetAnswer) : Type 0 where
    pub delivered : Bool
    pub added : List (Event ℕ Filled)
    pub adds : HasAdded old.standing new.standing (handed_by old.standing delivered ++ added)
    pub logged : new.log ≡ logged_by old.log (handed_by old.standing delivered ++ added)
    pub outcome : IsUnanswered added answer ⊎ IsAnswered old new added answer
    pub undelivered : delivered ≡ false → (added ≡ []) × (answer ≡ Err fault.Memory)

  -- a reload adds one Forget of the call that it names, after what was owed; where it names none or is refused, none
  pub record IsForgetOf (old new : GetterValue L) (delivered : Bool) (came_to : Forgot) : Type 0 where
    pub spot : Spot
    pub resolved : IsSpotOfKey space key old.desk new.desk spot
    pub adds : HasAdded old.standing new.standing (handed_by old.standing delivered ++ forgot_by (number_of old.standing) (spot_place spot) came_to)
    pub logged : new.log ≡ logged_by old.log (handed_by old.standing delivered ++ forgot_by (number_of old.standing) (spot_place spot) came_to)
    pub outdated : IsOutdated (spot_place spot) (seen_of old.standing) (seen_of new.standing)

  abbrev pub ForgetsOnce : GetterValue L → GetterValue L → Bool → Result Forgot LoadFault → Type 0
  ForgetsOnce old new delivered (Ok came_to) = (delivered ≡ true) × IsForgetOf old new delivered came_to
  ForgetsOnce old new delivered (Err refused) =
      HasAdded old.standing new.standing (handed_by old.standing delivered) × (new.log ≡ logged_by old.log (handed_by old.standing delivered))

  abbrev pub IsReloading : GetterValue L → GetterValue L → Result Forgot LoadFault → Type 0
  IsReloading old new answer = (delivered : Bool) × ForgetsOnce old new delivered answer
