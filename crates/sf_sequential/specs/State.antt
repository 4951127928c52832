-- the sequential group as a state: what it knows, and who leads, holds, is free
use Rattle.std.specs.Prelude.{◌≡◌, ◌⊎◌, ℕ, ◌^◌, ◌<◌, ◌≤◌, ◌==◌, nat_lt, Bool, true, false, ◌&&◌, List, [], ◌∷◌, ◌++◌, if◌then◌else◌, Option, Some, None, fold, is_none, option_and_then, All}
use Rattle.std.specs.List.{list_any}
use Rattle.sf_history.specs.declared.call.CallId.{CallId}
use Rattle.sf_sequential.specs.declared.ticket.Ticket.{Ticket}
use Rattle.sf_history.specs.declared.event.Event.{Event}
use Rattle.sf_history.specs.declared.event.Event.TheVariants.{Lead, Enter, Forget, ForgetCall, Settle, Handed}
use Rattle.sf_history.specs.declared.event.Hit.TheVariants.{Missed}
use Rattle.sf_history.specs.Calls.{same_call}
use Rattle.sf_history.specs.History.{holds_call, names, was_led, is_settled, is_handed, joined, next_generation, maker}
use Rattle.sf_history.specs.Legal.{IsLegal}
use Rattle.sf_history.specs.Limits.{IsCallerNumber, IsCallWithin, IsWithinLimits}
use Rattle.sf_words.specs.declared.limits.TheConstants.{LARGEST_CALLER, LARGEST_GENERATION}

-- the sequential group: its callers, 1 to so many, their first generation, what happened, and the members that took their letter
pub record GroupState (K V : Type 0) : Type 0 where
  pub callers : ℕ
  pub first : ℕ
  pub history : List (Event K V)
  pub taken : List CallId

-- the caller's ticket in an own channel that may be absent
abbrev pub own_ticket : ℕ → CallId → Option CallId → Option Ticket → Option Ticket
own_ticket a c None found = found
own_ticket a c (Some m) found = if m.caller == a then Some (record { call = c; member = m }) else found

-- the member took its letter
abbrev pub has_taken : List CallId → CallId → Bool
has_taken members m = list_any (λ taken. same_call taken m) members

-- the caller holds the ticket until its member takes the letter
abbrev pub untaken : List CallId → Ticket → Option Ticket
untaken members t = if has_taken members t.member then None else Some t

module _ {K V : Type 0} where
  -- what an event leaves of the call that the caller leads
  abbrev pub leaves_led : ℕ → Option CallId → Event K V → Option CallId
  leaves_led a found (Lead by key call own) = if by == a then Some call else found
  leaves_led a found (Enter by key call member) = found
  leaves_led a found (Forget by key closed) = found
  leaves_led a found (ForgetCall by key call hit) = found
  leaves_led a found (Settle by call result joiners) = if holds_call found call then None else found
  leaves_led a found (Handed by call) = found

  -- the call that the caller leads: it led it, and no Settle of it stands
  abbrev pub led_call : List (Event K V) → ℕ → Option CallId
  led_call h a = fold (leaves_led a) None h

  -- what an event leaves of the caller's last ticket
  abbrev pub leaves_ticket : ℕ → Option Ticket → Event K V → Option Ticket
  leaves_ticket a found (Lead by key call own) = own_ticket a call own found
  leaves_ticket a found (Enter by key call member) = if member.caller == a then Some (record { call = call; member = member }) else found
  leaves_ticket a found (Forget by key closed) = found
  leaves_ticket a found (ForgetCall by key call hit) = found
  leaves_ticket a found (Settle by call result joiners) = found
  leaves_ticket a found (Handed by call) = found

  abbrev pub last_ticket : List (Event K V) → ℕ → Option Ticket
  last_ticket h a = fold (leaves_ticket a) None h

  -- the ticket that the caller holds: an Enter or an own channel of a Lead names its member, which has not taken its letter
  abbrev pub held_ticket : GroupState K V → ℕ → Option Ticket
  held_ticket g a = option_and_then (untaken g.taken) (last_ticket g.history a)

  -- a caller is free that neither leads nor holds
  abbrev pub is_free : GroupState K V → ℕ → Bool
  is_free g a = is_none (led_call g.history a) && is_none (held_ticket g a)

  -- a caller is spent that has used its last generation
  abbrev pub is_spent : GroupState K V → ℕ → Bool
  is_spent g a = nat_lt LARGEST_GENERATION (next_generation g.first g.history a)

  -- the caller's next call or member
  abbrev pub next_id : GroupState K V → ℕ → CallId
  next_id g a = record { caller = a; generation = next_generation g.first g.history a }

  -- the group with more events
  abbrev pub with_events : GroupState K V → List (Event K V) → GroupState K V
  with_events g es = record { callers = g.callers; first = g.first; history = g.history ++ es; taken = g.taken }

  -- the group where this member took its letter
  abbrev pub with_taken : GroupState K V → CallId → GroupState K V
  with_taken g m = record { callers = g.callers; first = g.first; history = g.history; taken = g.taken ++ m ∷ [] }

  -- the caller is one of the group's
  abbrev pub IsCaller : GroupState K V → ℕ → Type 0
  IsCaller g a = (0 < a) × (a ≤ g.callers)

  -- the event gives the ticket: an Enter on its call names its member, or the Lead of its call names it as own channel
  abbrev pub gives : Ticket → Event K V → Bool
  gives t (Lead by key call own) = same_call call t.call && holds_call own t.member
  gives t (Enter by key call member) = same_call call t.call && same_call member t.member
  gives t (Forget by key closed) = false
  gives t (ForgetCall by key call hit) = false
  gives t (Settle by call result joiners) = false
  gives t (Handed by call) = false

  -- a caller leads a call that it led and that is not settled
  abbrev pub Leads : GroupState K V → ℕ → CallId → Type 0
  Leads g a c = (was_led g.history a c ≡ true) × (is_settled g.history c ≡ false)

  -- a caller holds a ticket that it was given and whose member has not taken its letter
  abbrev pub Holds : GroupState K V → ℕ → Ticket → Type 0
  Holds g a t = (t.member.caller ≡ a) × (list_any (gives t) g.history ≡ true) × (has_taken g.taken t.member ≡ false)

  -- the event is within the limits of records, but that a call which a Forget of it missed may be any
  abbrev pub IsBounded : Event K V → Type 0
  IsBounded (Lead by key call own) = IsWithinLimits {K = K} {V = V} (Lead by key call own)
  IsBounded (Enter by key call member) = IsWithinLimits {K = K} {V = V} (Enter by key call member)
  IsBounded (Forget by key closed) = IsWithinLimits {K = K} {V = V} (Forget by key closed)
  IsBounded (ForgetCall by key call hit) = IsCallerNumber by × (IsCallWithin call ⊎ (hit ≡ Missed))
  IsBounded (Settle by call result joiners) = IsWithinLimits {K = K} {V = V} (Settle by call result joiners)
  IsBounded (Handed by call) = IsWithinLimits {K = K} {V = V} (Handed by call)

  -- what every sequential group keeps
  pub record IsKept (eq : K → K → Bool) (g : GroupState K V) : Type 0 where
    pub few : g.callers ≤ LARGEST_CALLER
    pub first : 0 < g.first
    pub legal : IsLegal eq g.history
    pub limited : All IsBounded g.history
    pub made : All (λ e. IsCaller g (maker e)) g.history
    pub numbered : (c : CallId) → list_any (names c) g.history ≡ true → c.generation < next_generation g.first g.history c.caller
    pub within : (a : ℕ) → next_generation g.first g.history a ≤ 2 ^ 32
    pub leads_one : (a : ℕ) (c : CallId) → Leads g a c → led_call g.history a ≡ Some c
    pub holds_one : (a : ℕ) (t : Ticket) → Holds g a t → last_ticket g.history a ≡ Some t
    pub taken_named : (m : CallId) → has_taken g.taken m ≡ true → list_any (names m) g.history ≡ true
    pub taken_handed : (t : Ticket) → list_any (gives t) g.history ≡ true → has_taken g.taken t.member ≡ true → is_handed g.history t.call ≡ true
    pub few_joined : (c : CallId) → joined g.history c ≤ LARGEST_CALLER
