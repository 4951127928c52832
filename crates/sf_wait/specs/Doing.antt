-- how a do ends
use Rattle.std.specs.Prelude.{◌≡◌, ℕ, ◌⊎◌, Option, Some, None}
use Rattle.sf_group_rows.specs.Tokens.{CallerValue, FlightValue, TicketValue, LetterValue, SettledValue}
use Rattle.sf_group_rows.specs.Fitting.{FitOf}
use Rattle.sf_group_rows.specs.Begins.{HasLed, HasJoined, IsRefusedSpent}
use Rattle.sf_group_rows.specs.Finishes.{IsDone, IsHeld, IsReady}
use Rattle.sf_wait.specs.declared.doing.DoFault.{DoFault}
use Rattle.sf_wait.specs.declared.doing.DoFault.TheVariants as fault

module _ {V : Type 0} where
  -- it led, and settled its call with a value that the load answered
  pub record HasLoaded (fits : FitOf V) (answers : V → Type 0) (c : CallerValue V) (k : ℕ) (d : CallerValue V) (l : LetterValue V) : Type 0 where
    pub flight : FlightValue V
    pub value : V
    pub answered : answers value
    pub begun : HasLed c k flight
    pub finished : IsDone fits flight value d l

  -- it joined, and waited for the letter
  pub record HasWaited (fits : FitOf V) (c : CallerValue V) (k : ℕ) (d : CallerValue V) (l : LetterValue V) : Type 0 where
    pub ticket : TicketValue V
    pub begun : HasJoined c k ticket
    pub waited : IsReady fits ticket d l

  -- it led and settled its call with a value that the load answered, and letters of it are owed still
  pub record OwesLoaded (answers : V → Type 0) (c : CallerValue V) (k : ℕ) (s : SettledValue V) : Type 0 where
    pub flight : FlightValue V
    pub value : V
    pub answered : answers value
    pub begun : HasLed c k flight
    pub finished : IsHeld flight value s

module _ {V F : Type 0} where
  -- it led, and its load is gone; or it joined, and has its load back, so that it cannot have called it
  abbrev pub HasDoneWith : FitOf V → (V → Type 0) → CallerValue V → ℕ → F → CallerValue V → LetterValue V → Option F → Type 0
  HasDoneWith fits answers c k load d l back = (HasLoaded fits answers c k d l × (back ≡ None)) ⊎ (HasWaited fits c k d l × (back ≡ Some load))

  abbrev pub HasFailed : (V → Type 0) → CallerValue V → ℕ → F → DoFault V F → Type 0
  HasFailed answers c k load (fault.Spent d f) = IsRefusedSpent c d × (f ≡ load)
  HasFailed answers c k load (fault.Held s) = OwesLoaded answers c k s
