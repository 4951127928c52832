-- the numbers that words and records can hold: callers 1 to 65,535, generations 1 to 4,294,967,295
use Rattle.std.specs.Prelude.{ℕ, ◌<◌, ◌≤◌, IfSome}
use Rattle.sf_history.specs.declared.call.CallId.{CallId}
use Rattle.sf_history.specs.declared.event.Event.{Event}
use Rattle.sf_history.specs.declared.event.Event.TheVariants.{Lead, Enter, Forget, ForgetCall, Settle, Handed}
use Rattle.sf_words.specs.declared.limits.TheConstants.{LARGEST_CALLER, LARGEST_GENERATION}

abbrev pub IsCallerNumber : ℕ → Type 0
IsCallerNumber n = (0 < n) × (n ≤ LARGEST_CALLER)

abbrev pub IsCallWithin : CallId → Type 0
IsCallWithin c = IsCallerNumber c.caller × (0 < c.generation) × (c.generation ≤ LARGEST_GENERATION)

module _ {K V : Type 0} where
  -- the event's maker, and each call, member and own channel that it names, are within the limits
  abbrev pub IsWithinLimits : Event K V → Type 0
  IsWithinLimits (Lead by key call own) = IsCallerNumber by × IsCallWithin call × IfSome own IsCallWithin
  IsWithinLimits (Enter by key call member) = IsCallerNumber by × IsCallWithin call × IsCallWithin member
  IsWithinLimits (Forget by key closed) = IsCallerNumber by × IfSome closed IsCallWithin
  IsWithinLimits (ForgetCall by key call hit) = IsCallerNumber by × IsCallWithin call
  IsWithinLimits (Settle by call result joiners) = IsCallerNumber by × IsCallWithin call
  IsWithinLimits (Handed by call) = IsCallerNumber by × IsCallWithin call
