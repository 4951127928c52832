-- what each thread of a drive does
use Rattle.std.specs.Prelude.{◌≡◌, ℕ, zero, suc, ◌+◌, ◌*◌, ◌%◌, ◌==◌, Bool, true, false, cond, not, List, [], ◌∷◌, ◌++◌, length, Result, IfOk, is_ok, codes, decimal, string_bytes}
use Rattle.sf_history.specs.declared.event.Event.{Event}
use Rattle.sf_group_rows.specs.Tokens.{GroupValue}
use Rattle.sf_fill_keys.specs.Spaces.{SpaceId}
use Rattle.sf_fill_values.specs.declared.fault.LoadFault.{LoadFault}
use Rattle.sf_fill_store.specs.declared.forget.Forgot.{Forgot}
use Rattle.sf_fill.specs.Counted.{IsCounted}
use Rattle.sf_fill_values.specs.FillValue.{Filled}
use Rattle.sf_fill.specs.Fresh.{HasAdded, IsFreshGet, IsReloading}
use Rattle.sf_fill_values.specs.Answers.{GetAnswer}
use Rattle.sf_fill.specs.GetterValue.{GetterValue}
use Rattle.sf_fill_store.specs.Standings.{is_owing}
use Rattle.sf_fill_store.specs.Logs.{logged_by, empty_log}
use Rattle.sf_fill.specs.Reloads.{HasReloaded}
use Rattle.sf_fill_open.specs.Opened.{IsNewGetter}
use Rattle.sf_cli_drive.specs.declared.jobs.ThreadEnd.{ThreadEnd}
use Rattle.sf_cli_drive.specs.declared.jobs.Entry.{Entry}
use Rattle.sf_cli_drive.specs.Values.{value_of}

-- the keys of a drive are k0, k1, and so on
abbrev pub key_name : ℕ → List ℕ
key_name number = codes "k" ++ decimal number

-- the key of this number, and its value
pub record IsEntryOf (number : ℕ) (entry : Entry) : Type 0 where
  pub key : string_bytes entry.key ≡ key_name number
  pub value : string_bytes entry.value ≡ value_of (key_name number)

-- the keys from this number on, in their order
abbrev pub AreNumbered : ℕ → List Entry → Type 0
AreNumbered number [] = Unit {0}
AreNumbered number (entry ∷ entries) = IsEntryOf number entry × AreNumbered (suc number) entries

-- so many keys, from 0 on
abbrev pub AreEntries : ℕ → List Entry → Type 0
AreEntries keys entries = (length entries ≡ keys) × AreNumbered 0 entries

-- the number of the key that a thread gets at this turn: seven further on at each turn, and one further on for each thread
abbrev pub turn_number : ℕ → ℕ → ℕ → ℕ
turn_number keys thread turn = (7 * turn + thread) % keys

abbrev pub turn_key : ℕ → ℕ → ℕ → List ℕ
turn_key keys thread turn = key_name (turn_number keys thread turn)

-- each tenth turn reloads its key
abbrev pub reloads_at : ℕ → Bool
reloads_at turn = turn % 10 == 9

module _ {L : Type 0} (space : SpaceId) where
  abbrev pub HasReloadedWhere : Bool → List ℕ → GetterValue L → GetterValue L → Type 0
  HasReloadedWhere false key old new = new ≡ old
  HasReloadedWhere true key old new = (answer : Result Forgot LoadFault) × HasReloaded space key old new answer × IsReloading space key old new answer

  -- a get of the key, and whether it was answered. Whatever is answered is the key's value.
  pub record IsGetOf (key : List ℕ) (old new : GetterValue L) (right : Bool) : Type 0 where
    pub answer : GetAnswer
    pub fresh : IsFreshGet space key old new answer
    pub counted : IsCounted old new answer
    pub value : IfOk answer (λ letter. IfOk letter.value.result (λ bytes. bytes ≡ value_of key))
    pub is_right : right ≡ is_ok answer

  -- a get of the key, and then, where that is asked for, a reload of it
  pub record IsTurn (key : List ℕ) (reloads : Bool) (old new : GetterValue L) (right : Bool) : Type 0 where
    pub middle : GetterValue L
    pub got : IsGetOf key old middle right
    pub reloaded : HasReloadedWhere reloads key middle new

  -- so many turns of a thread, from turn 0 on, of which so many were answered
  abbrev pub HasTakenTurns : ℕ → ℕ → ℕ → GetterValue L → GetterValue L → ℕ → Type 0
  HasTakenTurns keys thread zero old new answers = (new ≡ old) × (answers ≡ 0)
  HasTakenTurns keys thread (suc turn) old new answers =
      (middle : GetterValue L) × (before : ℕ) × (right : Bool) × HasTakenTurns keys thread turn old middle before
      × IsTurn (turn_key keys thread turn) (reloads_at turn) middle new right × (answers ≡ before + cond right 1 0)

module _ {L : Type 0} where
  -- the getter's calls added these events, and it logged them
  pub record HasLoggedAll (old new : GetterValue L) : Type 0 where
    pub added : List (Event ℕ Filled)
    pub adds : HasAdded old.standing new.standing added
    pub logged : new.log ≡ logged_by old.log added

  -- what was owed may be delivered, and nothing else changes
  pub record HasSettled (old new : GetterValue L) (settled : Bool) : Type 0 where
    pub logs : HasLoggedAll old new
    pub rest : new ≡ record old { standing = new.standing; log = new.log }
    pub done : settled ≡ not (is_owing new.standing)

  -- the log of a getter whose calls added these events
  pub record IsLogOf (old new : GetterValue L) (log : List (Event ℕ (Unit {0}))) : Type 0 where
    pub added : List (Event ℕ Filled)
    pub adds : HasAdded old.standing new.standing added
    pub logged : log ≡ (logged_by old.log added).events

-- what a thread of a drive does: its turns, then it settles up, and gives its log
pub record IsJob {L : Type 0} (space : SpaceId) (keys gets thread : ℕ) (old new : GetterValue L) (part : ThreadEnd) : Type 0 where
  pub turned : GetterValue L
  pub turns : HasTakenTurns space keys thread gets old turned part.answers
  pub done : GetterValue L
  pub settled : HasSettled turned done part.settled
  pub log : part.log.items ≡ done.log.events
  pub emptied : new ≡ record done { log = empty_log 0 }

-- what came of the job of this thread, which a new getter of the group did that has room to log eight events a get: this getter and this part. Which loaders the getter has is not said.
pub record IsJobOf (space : SpaceId) (group : GroupValue) (keys gets thread : ℕ) (getter : GetterValue (Unit {0})) (part : ThreadEnd) : Type 0 where
  pub old : GetterValue (Unit {0})
  pub is_new : IsNewGetter group (8 * gets) old
  pub job : IsJob space keys gets thread old getter part

-- the same of some getter
abbrev pub IsPartOf : SpaceId → GroupValue → ℕ → ℕ → ℕ → ThreadEnd → Type 0
IsPartOf space group keys gets thread part = (getter : GetterValue (Unit {0})) × IsJobOf space group keys gets thread getter part
