-- the bytes alone of what is answered
use Rattle.std.specs.Prelude.{◌≡◌, ℕ, List, Result, Ok, Err, IfOk}
use Rattle.sf_group_rows.specs.Tokens.{LetterValue}
use Rattle.sf_history.specs.declared.call.CallId.{CallId}
use Rattle.sf_loaders.specs.declared.faults.LocalFault.{LocalFault}
use Rattle.sf_loaders.specs.declared.faults.LocalFault.TheVariants as local
use Rattle.sf_fill_keys.specs.Spaces.{SpaceId}
use Rattle.sf_fill_keys.specs.Spots.{spot_key}
use Rattle.sf_fill_values.specs.declared.fault.LoadFault.{LoadFault}
use Rattle.sf_fill_values.specs.declared.fault.LoadFault.TheVariants as fault
use Rattle.sf_fill_values.specs.FillValue.{Filled}
use Rattle.sf_fill.specs.Fresh.{IsFreshGet}
use Rattle.sf_fill_values.specs.Answers.{GetAnswer, IsLoadedFor}
use Rattle.sf_fill.specs.GetterValue.{GetterValue}
use Rattle.sf_fill.specs.Hits.{IsPresent}

-- a value's bytes, or its fault as a get's
abbrev pub bytes_by : Result (List ℕ) LocalFault → Result (List ℕ) LoadFault
bytes_by (Ok bytes) = Ok bytes
bytes_by (Err (local.Failed text)) = Err (fault.Local text)
bytes_by (Err local.Memory) = Err fault.LeaderMemory

-- what is answered in bytes where this is answered of a letter
abbrev pub bytes_in : GetAnswer → Result (List ℕ) LoadFault
bytes_in (Ok l) = bytes_by l.value.result
bytes_in (Err refused) = Err refused

module _ {L : Type 0} (space : SpaceId) (stated : List ℕ → CallId → List ℕ → Type 0) (key : List ℕ) where
  -- the bytes of an answer that a letter at hand gives the key, which is as fresh as a get's
  pub record BringsBytes (old new : GetterValue L) (bytes : Result (List ℕ) LoadFault) : Type 0 where
    pub answer : GetAnswer
    pub bytes_are : bytes ≡ bytes_in answer
    pub present : IsPresent space key old new answer
    pub fresh : IsFreshGet space key old new answer
    pub keyed : IfOk answer (λ (l : LetterValue Filled). spot_key l.value.spot ≡ key)
    pub loaded : IfOk answer (IsLoadedFor stated key)
