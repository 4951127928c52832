-- how askings by key end
use Rattle.std.specs.Prelude.{◌≡◌, ◌≢◌, true, ℕ, zero, suc, nat_eq, List, ◌∷◌, ◌++◌, Option, Some}
use Rattle.sf_history.specs.declared.call.CallId.{CallId}
use Rattle.sf_history.specs.declared.event.Event.{Event}
use Rattle.sf_history.specs.declared.event.Event.TheVariants.{Lead, Settle}
use Rattle.sf_history.specs.History.{current_call}
use Rattle.sf_group_rows.specs.Tokens.{CallerValue, FlightValue, LetterValue, SettledValue}
use Rattle.sf_group_rows.specs.Seen.{StartsWith, Stands}
use Rattle.sf_group_rows.specs.Unforgotten.{forgets}
use Rattle.sf_group_rows.specs.Fitting.{FitOf}
use Rattle.sf_group_rows.specs.Begins.{HasLed, IsRefusedSpent}
use Rattle.sf_wait.specs.Doing.{HasWaited, HasDoneWith, OwesLoaded}
use Rattle.sf_wait.specs.declared.doing.DoFault.{DoFault}
use Rattle.sf_wait.specs.declared.doing.DoFault.TheVariants as fault
use Rattle.sf_keys.specs.declared.doing.KeyAnswer.{KeyAnswer}
use Rattle.sf_keys.specs.declared.doing.KeyAnswer.TheVariants as answer

module _ {V : Type 0} where
  -- no Lead of the call stands before a Forget of the place in the list, nor before a ForgetCall of it that closed or cleared
  abbrev pub IsNewer : ℕ → CallId → List (Event ℕ V) → Type 0
  IsNewer k c old = (p q r s : List (Event ℕ V)) (e : Event ℕ V) (a j : ℕ) (own : Option CallId) → forgets k e ≡ true → old ≡ p ++ e ∷ q → p ≡ r ++ Lead a j c own ∷ s → ⊥

  -- A letter of the place. Its call stands settled so in what its caller has then seen, was the place's current one at a moment after
  -- all that the caller had seen; no Lead of it stands before a Forget of the place that the caller had seen.
  pub record IsFresh (k : ℕ) (old new : List (Event ℕ V)) (l : LetterValue V) : Type 0 where
    pub place : l.place ≡ k
    pub settled : Stands (Settle l.call.caller l.call l.value l.joiners) new
    pub moment : List (Event ℕ V)
    pub begins : StartsWith moment old
    pub within : StartsWith new moment
    pub current : current_call nat_eq moment k ≡ Some l.call
    pub newer : IsNewer k l.call old

module _ {V : Type 0} (fits : FitOf V) (key_of : V → List ℕ) (k : ℕ) (key : List ℕ) where
  -- so many askings in turn, each of which joined the open call of another key of the place, and waited for its letter
  abbrev pub HasMissed : ℕ → CallerValue V → CallerValue V → Type 0
  HasMissed zero c d = d ≡ c
  HasMissed (suc n) c d = (u : CallerValue V) × (l : LetterValue V) × HasMissed n c u × HasWaited fits u k d l × (key_of l.value ≢ key)

  -- the flight of an asking, after any number of such askings
  abbrev pub MayLead : CallerValue V → FlightValue V → Type 0
  MayLead c f = (n : ℕ) × (u : CallerValue V) × HasMissed n c u × HasLed u k f

  -- A letter of the key, as new as the asking: after some such askings the caller led and settled its call with a value that
  -- the load answered, and the load is gone; or it joined and waited, and the load comes back uncalled.
  pub record HasLetter {F : Type 0} (answers : V → Type 0) (load : F) (c d : CallerValue V) (l : LetterValue V) (back : Option F) : Type 0 where
    pub group : d.group ≡ c.group
    pub number : d.number ≡ c.number
    pub missed : ℕ
    pub asking : CallerValue V
    pub before : HasMissed missed c asking
    pub done : HasDoneWith fits answers asking k load d l back
    pub key_is : key_of l.value ≡ key
    pub fresh : IsFresh k c.seen d.seen l

  -- what the load answered without a call, after so many such askings
  pub record IsAlone (answers : V → Type 0) (c : CallerValue V) (rounds : ℕ) (d : CallerValue V) (v : V) : Type 0 where
    pub group : d.group ≡ c.group
    pub number : d.number ≡ c.number
    pub before : HasMissed rounds c d
    pub answered : answers v
    pub key_is : key_of v ≡ key

  abbrev pub HasAnswered : {F : Type 0} → (V → Type 0) → CallerValue V → F → ℕ → KeyAnswer V F → Type 0
  HasAnswered answers c load rounds (answer.Letter d l back) = HasLetter answers load c d l back
  HasAnswered answers c load rounds (answer.Alone d v) = IsAlone answers c rounds d v

  -- no generation is left, and the load comes back uncalled
  pub record IsSpentAsking {F : Type 0} (c d : CallerValue V) (load f : F) : Type 0 where
    pub group : d.group ≡ c.group
    pub number : d.number ≡ c.number
    pub missed : ℕ
    pub asking : CallerValue V
    pub before : HasMissed missed c asking
    pub spent : IsRefusedSpent asking d
    pub load_is : f ≡ load

  -- the caller led, and letters of its call are owed still
  pub record OwesLetters (answers : V → Type 0) (c : CallerValue V) (s : SettledValue V) : Type 0 where
    pub group : s.group ≡ c.group
    pub number : s.number ≡ c.number
    pub missed : ℕ
    pub asking : CallerValue V
    pub before : HasMissed missed c asking
    pub owes : OwesLoaded answers asking k s

  abbrev pub HasFailed : {F : Type 0} → (V → Type 0) → CallerValue V → F → DoFault V F → Type 0
  HasFailed answers c load (fault.Spent d f) = IsSpentAsking c d load f
  HasFailed answers c load (fault.Held s) = OwesLetters answers c s
