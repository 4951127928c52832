-- what is answered of a letter
use Rattle.std.specs.Prelude.{ℕ, List, Result, Ok, Err, IfOk}
use Rattle.sf_history.specs.declared.call.CallId.{CallId}
use Rattle.sf_group_rows.specs.Tokens.{LetterValue}
use Rattle.sf_dir.specs.declared.refusal.Refusal.{Refusal}
use Rattle.sf_dir.specs.declared.refusal.Refusal.TheVariants as refusal
use Rattle.sf_loaders.specs.declared.faults.LocalFault.{LocalFault}
use Rattle.sf_loaders.specs.declared.faults.LocalFault.TheVariants as local
use Rattle.sf_fill_values.specs.declared.fault.LoadFault.{LoadFault}
use Rattle.sf_fill_values.specs.declared.fault.LoadFault.TheVariants as fault
use Rattle.sf_fill_values.specs.declared.fault.GetRefusal.TheVariants as refused
use Rattle.sf_fill_values.specs.FillValue.{Filled}

abbrev pub GetAnswer : Type 0
GetAnswer = Result (LetterValue Filled) LoadFault

-- what is answered of a letter: itself where it has bytes, and else its fault
abbrev pub answer_by : LetterValue Filled → Result (List ℕ) LocalFault → GetAnswer
answer_by l (Ok bytes) = Ok l
answer_by l (Err (local.Failed text)) = Err (fault.Local text)
answer_by l (Err local.Memory) = Err fault.LeaderMemory

abbrev pub answer_in : LetterValue Filled → GetAnswer
answer_in l = answer_by l l.value.result

-- a letter's bytes are what was stated for the key and the call whose run loaded them
abbrev pub IsLoadedFor : (List ℕ → CallId → List ℕ → Type 0) → List ℕ → LetterValue Filled → Type 0
IsLoadedFor loaded key l = IfOk l.value.result (λ bytes. loaded key l.value.root bytes)

abbrev pub refusal_of : Refusal → LoadFault
refusal_of refusal.KeyTooLong = fault.Refused refused.KeyTooLong
refusal_of refusal.Full = fault.Refused refused.Full
