-- what words say that tokens keep
use Rattle.std.specs.Prelude.{ℕ, zero, suc, ◌/◌, ◌%◌, Option, None, Some}
use Rattle.sf_history.specs.declared.call.CallId.{CallId}

-- the generation is the upper half
abbrev pub call_in_word : ℕ → CallId
call_in_word word = record { caller = word % 0x1_0000_0000; generation = word / 0x1_0000_0000 }

-- no call has the word 0
abbrev pub call_if_any : ℕ → Option CallId
call_if_any zero = None
call_if_any (suc rest) = Some (call_in_word (suc rest))

-- the number of which this is the next
abbrev pub below : ℕ → Option ℕ
below zero = None
below (suc number) = Some number
