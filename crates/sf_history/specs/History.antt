-- what a history says: open call, current call, number of joiners, answer, next generation
use Rattle.std.specs.Prelude.{◌≡◌, ℕ, ◌+◌, ◌==◌, Bool, true, false, ◌&&◌, ◌||◌, List, if◌then◌else◌, Option, Some, None, fold, sum_by, find, option_and_then, option_map, filter}
use Rattle.std.specs.List.{list_any, count_by}
use Rattle.sf_history.specs.declared.call.CallId.{CallId}
use Rattle.sf_history.specs.declared.event.Event.{Event}
use Rattle.sf_history.specs.declared.event.Hit.{Hit}
use Rattle.sf_history.specs.declared.event.Hit.TheVariants.{Closed, Cleared, Missed}
use Rattle.sf_history.specs.declared.event.Event.TheVariants.{Lead, Enter, Forget, ForgetCall, Settle, Handed}
use Rattle.sf_history.specs.Calls.{same_call}

-- the option holds this call
abbrev pub holds_call : Option CallId → CallId → Bool
holds_call None c = false
holds_call (Some d) c = same_call d c

-- how many generations of the caller a member that may be absent uses
abbrev pub uses_member : ℕ → Option CallId → ℕ
uses_member a None = 0
uses_member a (Some m) = if m.caller == a then 1 else 0

-- a Forget of one call closed it
abbrev pub has_closed : Hit → Bool
has_closed Closed = true
has_closed Cleared = false
has_closed Missed = false

-- a Forget of one call closed it, or found it current and not open: it is not current from then on
abbrev pub has_ended : Hit → Bool
has_ended Closed = true
has_ended Cleared = true
has_ended Missed = false

module _ {K V : Type 0} where
  -- the event names it as call, member or own channel
  abbrev pub names : CallId → Event K V → Bool
  names c (Lead by key call own) = same_call call c || holds_call own c
  names c (Enter by key call member) = same_call call c || same_call member c
  names c (Forget by key closed) = false
  names c (ForgetCall by key call hit) = false
  names c (Settle by call result joiners) = false
  names c (Handed by call) = false

  -- new identifier: no Lead or Enter names it
  abbrev pub IsNew : List (Event K V) → CallId → Type 0
  IsNew h c = list_any (names c) h ≡ false

  -- what an event leaves of the key's open call
  abbrev pub opens : (K → K → Bool) → K → Option CallId → Event K V → Option CallId
  opens eq k found (Lead by key call own) = if eq key k then Some call else found
  opens eq k found (Enter by key call member) = found
  opens eq k found (Forget by key closed) = if eq key k then None else found
  opens eq k found (ForgetCall by key call hit) = if eq key k && has_closed hit then None else found
  opens eq k found (Settle by call result joiners) = if holds_call found call then None else found
  opens eq k found (Handed by call) = found

  -- open call: the call of the last Lead on the key, if no Forget of the key, no ForgetCall of it that closed, and no Settle of that call stands after it
  abbrev pub open_call : (K → K → Bool) → List (Event K V) → K → Option CallId
  open_call eq h k = fold (opens eq k) None h

  -- what an event leaves of the key's current call
  abbrev pub keeps_current : (K → K → Bool) → K → Option CallId → Event K V → Option CallId
  keeps_current eq k found (Lead by key call own) = if eq key k then Some call else found
  keeps_current eq k found (Enter by key call member) = found
  keeps_current eq k found (Forget by key closed) = if eq key k then None else found
  keeps_current eq k found (ForgetCall by key call hit) = if eq key k && has_ended hit then None else found
  keeps_current eq k found (Settle by call result joiners) = found
  keeps_current eq k found (Handed by call) = found

  -- current call: the call of the last Lead on the key, if no Forget of the key and no ForgetCall of it that closed or cleared stands after it; it may be settled
  abbrev pub current_call : (K → K → Bool) → List (Event K V) → K → Option CallId
  current_call eq h k = fold (keeps_current eq k) None h

  -- what an event leaves of the call that was led last on the key
  abbrev pub leads_last : (K → K → Bool) → K → Option CallId → Event K V → Option CallId
  leads_last eq k found (Lead by key call own) = if eq key k then Some call else found
  leads_last eq k found (Enter by key call member) = found
  leads_last eq k found (Forget by key closed) = found
  leads_last eq k found (ForgetCall by key call hit) = found
  leads_last eq k found (Settle by call result joiners) = found
  leads_last eq k found (Handed by call) = found

  -- the call of the last Lead on the key, whatever stands after it
  abbrev pub last_led : (K → K → Bool) → List (Event K V) → K → Option CallId
  last_led eq h k = fold (leads_last eq k) None h

  -- the event is an Enter on the call
  abbrev pub enters : CallId → Event K V → Bool
  enters c (Lead by key call own) = false
  enters c (Enter by key call member) = same_call call c
  enters c (Forget by key closed) = false
  enters c (ForgetCall by key call hit) = false
  enters c (Settle by call result joiners) = false
  enters c (Handed by call) = false

  -- number of joiners: how many Enters on the call stand; an own channel is no Enter
  abbrev pub joined : List (Event K V) → CallId → ℕ
  joined h c = count_by (enters c) h

  -- the event is a Lead of the call by the caller
  abbrev pub leads : ℕ → CallId → Event K V → Bool
  leads a c (Lead by key call own) = (by == a) && same_call call c
  leads a c (Enter by key call member) = false
  leads a c (Forget by key closed) = false
  leads a c (ForgetCall by key call hit) = false
  leads a c (Settle by call result joiners) = false
  leads a c (Handed by call) = false

  -- the caller led the call
  abbrev pub was_led : List (Event K V) → ℕ → CallId → Bool
  was_led h a c = list_any (leads a c) h

  -- the event is a Settle of the call
  abbrev pub settles : CallId → Event K V → Bool
  settles c (Lead by key call own) = false
  settles c (Enter by key call member) = false
  settles c (Forget by key closed) = false
  settles c (ForgetCall by key call hit) = false
  settles c (Settle by call result joiners) = same_call call c
  settles c (Handed by call) = false

  abbrev pub is_settled : List (Event K V) → CallId → Bool
  is_settled h c = list_any (settles c) h

  -- the event is a Handed of the call
  abbrev pub hands : CallId → Event K V → Bool
  hands c (Lead by key call own) = false
  hands c (Enter by key call member) = false
  hands c (Forget by key closed) = false
  hands c (ForgetCall by key call hit) = false
  hands c (Settle by call result joiners) = false
  hands c (Handed by call) = same_call call c

  abbrev pub is_handed : List (Event K V) → CallId → Bool
  is_handed h c = list_any (hands c) h

  -- what a Settle settles its call with
  abbrev pub result_in : Event K V → Option V
  result_in (Lead by key call own) = None
  result_in (Enter by key call member) = None
  result_in (Forget by key closed) = None
  result_in (ForgetCall by key call hit) = None
  result_in (Settle by call result joiners) = Some result
  result_in (Handed by call) = None

  abbrev pub result_of : List (Event K V) → CallId → Option V
  result_of h c = option_and_then result_in (find (settles c) h)

  -- answer of a call: what it was settled with, and how many joined it
  abbrev pub answer_of : List (Event K V) → CallId → Option (V × ℕ)
  answer_of h c = option_map (λ v. (v, joined h c)) (result_of h c)

  -- how many generations of the caller the event uses: one for each call, member and own channel that it names first
  abbrev pub uses : ℕ → Event K V → ℕ
  uses a (Lead by key call own) = (if call.caller == a then 1 else 0) + uses_member a own
  uses a (Enter by key call member) = if member.caller == a then 1 else 0
  uses a (Forget by key closed) = 0
  uses a (ForgetCall by key call hit) = 0
  uses a (Settle by call result joiners) = 0
  uses a (Handed by call) = 0

  -- next generation: the first one, plus one for each call, member and own channel of the caller
  abbrev pub next_generation : ℕ → List (Event K V) → ℕ → ℕ
  next_generation first h a = first + sum_by (uses a) h

  -- the caller that made the event
  abbrev pub maker : Event K V → ℕ
  maker (Lead by key call own) = by
  maker (Enter by key call member) = by
  maker (Forget by key closed) = by
  maker (ForgetCall by key call hit) = by
  maker (Settle by call result joiners) = by
  maker (Handed by call) = by

  -- the events that a caller made
  abbrev pub own_events : ℕ → List (Event K V) → List (Event K V)
  own_events a h = filter (λ e. maker e == a) h
