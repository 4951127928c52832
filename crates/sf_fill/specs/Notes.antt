-- how getters pass on what they have seen
use Rattle.std.specs.Prelude.{◌≡◌, ◌≢◌, ℕ, ◌≤◌, nat_eq, Bool, true, List, [], ◌∷◌, ◌++◌, Option, Some}
use Rattle.sf_history.specs.declared.call.CallId.{CallId}
use Rattle.sf_history.specs.declared.event.Event.{Event}
use Rattle.sf_history.specs.declared.event.Event.TheVariants.{Lead, ForgetCall}
use Rattle.sf_history.specs.declared.event.Hit.TheVariants as hit
use Rattle.sf_history.specs.History.{current_call}
use Rattle.sf_history.specs.Legal.{IsLegal}
use Rattle.sf_group_rows.specs.Tokens.{NoteValue, LetterValue}
use Rattle.sf_group_rows.specs.Seen.{StartsWith, Stands}
use Rattle.sf_fill_keys.specs.Spaces.{SpaceId}
use Rattle.sf_fill_keys.specs.Spots.{spot_place}
use Rattle.sf_fill_store.specs.declared.forget.Forgot.{Forgot}
use Rattle.sf_fill_store.specs.declared.forget.Forgot.TheVariants as forgot
use Rattle.sf_fill_values.specs.FillValue.{Filled}
use Rattle.sf_fill.specs.Fresh.{HasAdded, IsFresh, IsForgetOf}
use Rattle.sf_group_rows.specs.Unforgotten.{forgets}
use Rattle.sf_fill.specs.Purges.{HasForgottenFirst}
use Rattle.sf_fill.specs.GetterValue.{GetterValue}
use Rattle.sf_fill_store.specs.Standings.{group_of, number_of, seen_of, is_owing}

module _ {L : Type 0} where
  -- the getter stays as it was, and the note shows what it has seen
  pub record HasToldNote (old new : GetterValue L) (n : NoteValue Filled) : Type 0 where
    pub same : new ≡ old
    pub group : n.group ≡ group_of old.standing
    pub shown : n.seen ≡ seen_of old.standing

  -- The getter has then seen what was shown, and all that it had seen. It made nothing, owes what it owed, and nothing else of
  -- it changes.
  pub record HasLearntNote (old : GetterValue L) (shown : List (Event ℕ Filled)) (new : GetterValue L) : Type 0 where
    pub adds : HasAdded old.standing new.standing []
    pub shows : StartsWith (seen_of new.standing) shown
    pub owes : is_owing new.standing ≡ is_owing old.standing
    pub rest : new ≡ record old { standing = new.standing }

-- the call's Lead on the place stands in the list, and this event before it
pub record IsLedAfter (e : Event ℕ Filled) (k : ℕ) (c : CallId) (h : List (Event ℕ Filled)) : Type 0 where
  pub before : List (Event ℕ Filled)
  pub by : ℕ
  pub own : Option CallId
  pub after : List (Event ℕ Filled)
  pub led : h ≡ before ++ Lead by k c own ∷ after
  pub stands : Stands e before

-- What a reload that closed or cleared this call says of bytes: the run that loaded them was led after its Forget. Of one that
-- missed its call, or was idle, nothing is said of them: another made the Forget, or a newer call took the bytes over.
abbrev pub IsLoadedAfter : ℕ → ℕ → Forgot → CallId → List (Event ℕ Filled) → Type 0
IsLoadedAfter by k (forgot.Closed c) root moment = IsLedAfter (ForgetCall by k c hit.Closed) k root moment
IsLoadedAfter by k (forgot.Cleared c) root moment = IsLedAfter (ForgetCall by k c hit.Cleared) k root moment
IsLoadedAfter by k (forgot.Missed c) root moment = Unit {0}
IsLoadedAfter by k forgot.Idle root moment = Unit {0}

-- what a letter of the place tells that is fresh for one who learnt of the reload: its call is not the one that was current when
-- the reload began, and its bytes were loaded after the Forget
pub record IsAfterReload (by k : ℕ) (came_to : Forgot) (old moment : List (Event ℕ Filled)) (l : LetterValue Filled) : Type 0 where
  pub other : current_call nat_eq old k ≢ Some l.call
  pub loaded : IsLoadedAfter by k came_to l.value.root moment

-- A getter reloads a key and tells a note, which another one learns. What that gets fresh from the place then is after the reload.
abbrev pub NotesCarryReloads : (L M : Type 0) → Type 0
NotesCarryReloads L M = (space : SpaceId) (key : List ℕ) (old new after : GetterValue L) (delivered : Bool) (came_to : Forgot)
    (r : IsForgetOf space key old new delivered came_to) (n : NoteValue Filled) → HasToldNote new after n
    → (other learnt : GetterValue M) → HasLearntNote other n.seen learnt
    → (then : List (Event ℕ Filled)) (l : LetterValue Filled) → IsLegal nat_eq then → (fresh : IsFresh (spot_place r.spot) (seen_of learnt.standing) then l)
    → IsAfterReload (number_of old.standing) (spot_place r.spot) came_to (seen_of old.standing) fresh.moment l

-- what a letter of the place tells that is fresh for one who learnt of a Forget of all places: its call is not the one that was current
-- when that began, and its bytes were loaded after each Forget of the place that was seen
pub record IsAfterPurge (k : ℕ) (old new moment : List (Event ℕ Filled)) (l : LetterValue Filled) : Type 0 where
  pub other : current_call nat_eq old k ≢ Some l.call
  pub loaded : (e : Event ℕ Filled) → forgets k e ≡ true → Stands e new → IsLedAfter e k l.value.root moment

-- A getter forgets all places and tells a note, which another one learns. What that gets fresh from a place then is after the purge.
abbrev pub NotesCarryPurges : (L M : Type 0) → Type 0
NotesCarryPurges L M = (places : ℕ) (handed : List (Event ℕ Filled)) (old new after : GetterValue L) → HasForgottenFirst places handed old.standing new.standing → (n : NoteValue Filled) → HasToldNote new after n
    → (other learnt : GetterValue M) → HasLearntNote other n.seen learnt → (k : ℕ) → 1 ≤ k → k ≤ places
    → (then : List (Event ℕ Filled)) (l : LetterValue Filled) → IsLegal nat_eq then → (fresh : IsFresh k (seen_of learnt.standing) then l)
    → IsAfterPurge k (seen_of old.standing) (seen_of new.standing) fresh.moment l
