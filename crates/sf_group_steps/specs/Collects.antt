-- what an owner finds in its cell
use Rattle.std.specs.Prelude.{◌≡◌, ℕ, ◌==◌, List, [], ◌∷◌, Option, Some, cond}
use Rattle.sf_history.specs.declared.call.CallId.{CallId}
use Rattle.sf_history.specs.declared.event.Event.{Event}
use Rattle.sf_history.specs.declared.event.Event.TheVariants as event
use Rattle.sf_words.specs.declared.call_word.CallState.TheVariants as word
use Rattle.sf_words.specs.CallWord.{call_code}
use Rattle.sf_steps_laws.specs.declared.letter.Letter.{Letter}
use Rattle.sf_group_rows.specs.Fitting.{FitOf}
use Rattle.sf_group_rows.specs.Seen.{Stands}
use Rattle.sf_group_steps.specs.Cells.{Handle, none_of, take_one}

-- a caller takes its own cell out where its word says that it is full
abbrev pub collects : ℕ → ℕ → ℕ → Handle
collects a g n = cond (n == call_code (word.Full g)) (take_one a) none_of

module _ {V : Type 0} where
  -- the letter brings the call's answer: its Settle stands in the list, with which its value fits
  pub record IsAnswer (fits : FitOf V) (k : ℕ) (c : CallId) (h : List (Event ℕ V)) (l : Letter V) : Type 0 where
    pub place : l.place ≡ k
    pub call : l.call ≡ c
    pub settled : Stands (event.Settle c.caller c l.value l.joiners) h
    pub fitting : fits k c l.value h

  -- the seat carries the letter that it found in its cell
  abbrev pub HasFound : FitOf V → ℕ → ℕ → CallId → List (Event ℕ V) → List (ℕ × Option (Letter V)) → Type 0
  HasFound fits a k c h carried = (l : Letter V) × (carried ≡ (a, Some l) ∷ []) × IsAnswer fits k c h l
