-- what an event says
use Rattle.std.specs.Prelude.{ℕ, Option, Some, None}
use Rattle.sf_history.specs.declared.call.CallId.{CallId}
use Rattle.sf_history.specs.declared.event.Event.{Event}
use Rattle.sf_history.specs.declared.event.Event.TheVariants.{Lead, Enter, Forget, ForgetCall, Settle, Handed}

-- the call that it leads, enters, closes, ends or hands out
abbrev pub call_in : {K V : Type 0} → Event K V → Option CallId
call_in (Lead by key call own) = Some call
call_in (Enter by key call member) = Some call
call_in (Forget by key closed) = closed
call_in (ForgetCall by key call hit) = Some call
call_in (Settle by call result joiners) = Some call
call_in (Handed by call) = Some call

abbrev pub key_in : {K V : Type 0} → Event K V → Option K
key_in (Lead by key call own) = Some key
key_in (Enter by key call member) = Some key
key_in (Forget by key closed) = Some key
key_in (ForgetCall by key call hit) = Some key
key_in (Settle by call result joiners) = None
key_in (Handed by call) = None

abbrev pub caller_in : {K V : Type 0} → Event K V → ℕ
caller_in (Lead by key call own) = by
caller_in (Enter by key call member) = by
caller_in (Forget by key closed) = by
caller_in (ForgetCall by key call hit) = by
caller_in (Settle by call result joiners) = by
caller_in (Handed by call) = by
