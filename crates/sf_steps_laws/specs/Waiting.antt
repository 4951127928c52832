-- whom a leader owes letters: one list of callers that wait
use Rattle.std.specs.Prelude.{◌≡◌, ◌≤◌, ◌+◌, ◌⊎◌, ℕ, List, [], ◌∷◌, ◌++◌, length, Option, Some, None}
use Rattle.sf_history.specs.declared.call.CallId.{CallId}
use Rattle.sf_words.specs.declared.call_word.CallState.{CallState}
use Rattle.sf_words.specs.declared.call_word.CallState.TheVariants as word
use Rattle.sf_steps_laws.specs.declared.letter.Letter.{Letter}
use Rattle.sf_steps_laws.specs.declared.operation.Stage.{Stage}
use Rattle.sf_steps_laws.specs.declared.operation.Stage.TheVariants.{Leading, Holding, Polling, Settling}
use Rattle.sf_steps_laws.specs.declared.operation.SettleStep.TheVariants as settle
use Rattle.sf_steps_laws.specs.declared.turn.Turn.{Turn}
use Rattle.sf_steps_laws.specs.World.{World}
use Rattle.sf_steps_laws.specs.Events.{world_after}
use Rattle.sf_steps_laws.specs.Schedules.{Setting, IsSchedule}
use Rattle.sf_steps_laws.specs.Delivered.{delivers}
use Rattle.sf_steps_laws.specs.Left.{AreOthers}

-- two callers that are to deliver to one caller are one caller, and whom they deliver to is at no stage but a ticket's
abbrev pub DeliversAreApart : Type 0 → Type 0
DeliversAreApart V = (z : Setting) (s : List (Turn V)) → IsSchedule z s → (a b : ℕ) (m n : CallId) (l k : Letter V)
    → delivers a ((world_after z.callers z.first s).stages a) ≡ Some (m, l) → delivers b ((world_after z.callers z.first s).stages b) ≡ Some (n, k) → m.caller ≡ n.caller → a ≡ b

module _ {V : Type 0} where
  -- the member waits for its letter of the call on the place: its word is listed
  abbrev pub IsWaiting : World V → ℕ → CallId → CallId → Type 0
  IsWaiting w k c m = ((w.stages m.caller ≡ Holding k m.generation c) ⊎ (w.stages m.caller ≡ Polling k m.generation c)) × (w.calls m.caller ≡ word.Listed m.generation)

  -- the next words hold the list from the top on, and all on it wait for the call
  abbrev pub IsListed : World V → ℕ → CallId → Option ℕ → List CallId → Type 0
  IsListed w k c None [] = Unit {0}
  IsListed w k c None (m ∷ l) = ⊥
  IsListed w k c (Some x) [] = ⊥
  IsListed w k c (Some x) (m ∷ l) = (x ≡ m.caller) × IsWaiting w k c m × IsListed w k c (w.nexts m.caller) l

-- turns that do not concern a leader leave its list, and whoever waits on it
abbrev pub ListsStay : Type 0 → Type 0
ListsStay V = (z : Setting) (s ts : List (Turn V)) → IsSchedule z (s ++ ts) → (k : ℕ) (c : CallId) (top : Option ℕ) (l : List CallId) → AreOthers (world_after z.callers z.first s) ts c.caller
    → IsListed (world_after z.callers z.first s) k c top l → IsListed (world_after z.callers z.first (s ++ ts)) k c top l

-- the top of a leader's list
abbrev pub list_top : CallState → Option ℕ
list_top word.Free = None
list_top (word.Open s) = s.top
list_top (word.Forgot s) = s.top
list_top (word.Done s) = None
list_top (word.Listed g) = None
list_top (word.Full g) = None

module _ {V : Type 0} where
  -- the place, the generation and the own channel of a call that the caller leads and has not settled
  abbrev pub leads_of : Stage V → Option (ℕ × ℕ × Option CallId)
  leads_of (Leading k g own) = Some (k, g, own)
  leads_of (Settling k g own v settle.Peek) = Some (k, g, own)
  leads_of (Settling k g own v (settle.Close seen)) = Some (k, g, own)
  leads_of _ = None

  abbrev pub OwnWaits : World V → ℕ → CallId → Option CallId → Type 0
  OwnWaits w k c None = Unit {0}
  OwnWaits w k c (Some m) = IsWaiting w k c m

-- before its settle a leader's words hold a list of fewer members than callers, who all wait, as its own channel does
abbrev pub LeadersHaveLists : Type 0 → Type 0
LeadersHaveLists V = (z : Setting) (s : List (Turn V)) → IsSchedule z s → (a k g : ℕ) (own : Option CallId) → leads_of ((world_after z.callers z.first s).stages a) ≡ Some (k, g, own)
    → (l : List CallId) × IsListed (world_after z.callers z.first s) k (record { caller = a; generation = g }) (list_top ((world_after z.callers z.first s).calls a)) l
    × OwnWaits (world_after z.callers z.first s) k (record { caller = a; generation = g }) own × (length l + 1 ≤ z.callers)
