-- what an index keeps of a sequential group: what is known of each key, caller and call
use Rattle.std.specs.Prelude.{◌≡◌, ℕ, ◌+◌, ◌<◌, ◌==◌, Bool, if◌then◌else◌, Option, Some, None, is_some, length, get_or, sum_by}
use Rattle.sf_history.specs.declared.call.CallId.{CallId}
use Rattle.sf_history.specs.Calls.{same_call}
use Rattle.sf_history.specs.declared.event.Event.{Event}
use Rattle.sf_history.specs.History.{current_call, joined, is_settled, is_handed, result_in, result_of, uses, uses_member}
use Rattle.sf_sequential.specs.declared.rows.CallerRow.{CallerRow}
use Rattle.sf_sequential.specs.declared.rows.CallRow.{CallRow}
use Rattle.sf_sequential.specs.declared.ticket.Ticket.{Ticket}
use Rattle.sf_sequential.specs.State.{GroupState, led_call, held_ticket, own_ticket}

-- a caller of which nothing is kept, and such a call
abbrev pub caller_row : Option CallerRow → CallerRow
caller_row None = record { led = None; held = None; used = 0 }
caller_row (Some row) = row

abbrev pub call_row : Option CallRow → CallRow
call_row None = record { joiners = 0; settled = None }
call_row (Some row) = row

-- a caller that holds one more ticket, whose member is one more of its generations
abbrev pub holding : Ticket → CallerRow → CallerRow
holding t row = record { led = row.led; held = Some t; used = row.used + 1 }

-- the call, unless the test holds of it
abbrev pub without : (CallId → Bool) → Option CallId → Option CallId
without test None = None
without test (Some c) = if test c then None else Some c

-- an index as it is seen: the current call of each key, and the rows of callers and calls
pub record Noted (K : Type 0) : Type 0 where
  pub current : K → Option CallId
  pub caller : ℕ → CallerRow
  pub call : CallId → CallRow

module _ {K V : Type 0} where
  -- an index tells what the group's history and its taken members say
  pub record Tells (eq : K → K → Bool) (g : GroupState K V) (n : Noted K) : Type 0 where
    pub currents : (k : K) → n.current k ≡ current_call eq g.history k
    pub leds : (a : ℕ) → (n.caller a).led ≡ led_call g.history a
    pub helds : (a : ℕ) → (n.caller a).held ≡ held_ticket g a
    pub useds : (a : ℕ) → (n.caller a).used ≡ sum_by (uses a) g.history
    pub joins : (c : CallId) → (n.call c).joiners ≡ joined g.history c
    pub settles : (c : CallId) → is_some (n.call c).settled ≡ is_settled g.history c
    pub hands : (c : CallId) → is_some (n.call c).settled ≡ is_handed g.history c
    pub places : (c : CallId) (i : ℕ) → (n.call c).settled ≡ Some i → (i < length g.history) × ((e : Event K V) → result_in (get_or g.history i e) ≡ result_of g.history c)

module _ {K : Type 0} where
  -- one caller has another row, and all else is as it was
  pub record IsCallerSet (old new : Noted K) (a : ℕ) (row : CallerRow) : Type 0 where
    pub current : (k : K) → new.current k ≡ old.current k
    pub caller : (b : ℕ) → new.caller b ≡ (if a == b then row else old.caller b)
    pub call : (c : CallId) → new.call c ≡ old.call c

  -- one call has another row, and all else is as it was
  pub record IsCallSet (old new : Noted K) (id : CallId) (row : CallRow) : Type 0 where
    pub current : (k : K) → new.current k ≡ old.current k
    pub caller : (a : ℕ) → new.caller a ≡ old.caller a
    pub call : (c : CallId) → new.call c ≡ (if same_call id c then row else old.call c)

  -- one key has another current call or none, and all else is as it was
  pub record IsKeySet (eq : K → K → Bool) (old new : Noted K) (key : K) (found : Option CallId) : Type 0 where
    pub current : (k : K) → new.current k ≡ (if eq key k then found else old.current k)
    pub caller : (a : ℕ) → new.caller a ≡ old.caller a
    pub call : (c : CallId) → new.call c ≡ old.call c

  -- what an index notes of a call's own channel, if it has one
  pub record IsOwnNoted (old new : Noted K) (id : CallId) (own : Option CallId) : Type 0 where
    pub current : (k : K) → new.current k ≡ old.current k
    pub led : (b : ℕ) → (new.caller b).led ≡ (old.caller b).led
    pub held : (b : ℕ) → (new.caller b).held ≡ own_ticket b id own (old.caller b).held
    pub used : (b : ℕ) → (new.caller b).used ≡ (old.caller b).used + uses_member b own
    pub call : (c : CallId) → new.call c ≡ old.call c

  -- what an index notes of a new call that a caller leads, perhaps with an own channel
  pub record IsLeadNoted (eq : K → K → Bool) (old new : Noted K) (key : K) (id : CallId) (own : Option CallId) : Type 0 where
    pub current : (k : K) → new.current k ≡ (if eq key k then Some id else old.current k)
    pub led : (b : ℕ) → (new.caller b).led ≡ (if id.caller == b then Some id else (old.caller b).led)
    pub held : (b : ℕ) → (new.caller b).held ≡ own_ticket b id own (old.caller b).held
    pub used : (b : ℕ) → (new.caller b).used ≡ (old.caller b).used + ((if id.caller == b then 1 else 0) + uses_member b own)
    pub call : (c : CallId) → new.call c ≡ old.call c

  -- what it notes of a member that enters a call
  pub record IsEnterNoted (old new : Noted K) (id member : CallId) : Type 0 where
    pub current : (k : K) → new.current k ≡ old.current k
    pub led : (b : ℕ) → (new.caller b).led ≡ (old.caller b).led
    pub held : (b : ℕ) → (new.caller b).held ≡ (if member.caller == b then Some (record { call = id; member = member }) else (old.caller b).held)
    pub used : (b : ℕ) → (new.caller b).used ≡ (old.caller b).used + (if member.caller == b then 1 else 0)
    pub joiners : (c : CallId) → (new.call c).joiners ≡ (old.call c).joiners + (if same_call id c then 1 else 0)
    pub settled : (c : CallId) → (new.call c).settled ≡ (old.call c).settled

  -- what it notes of a caller that settles a call at a place of the history
  pub record IsSettleNoted (old new : Noted K) (a : ℕ) (id : CallId) (place : ℕ) : Type 0 where
    pub current : (k : K) → new.current k ≡ old.current k
    pub led : (b : ℕ) → (new.caller b).led ≡ (if a == b then None else (old.caller b).led)
    pub held : (b : ℕ) → (new.caller b).held ≡ (old.caller b).held
    pub used : (b : ℕ) → (new.caller b).used ≡ (old.caller b).used
    pub joiners : (c : CallId) → (new.call c).joiners ≡ (old.call c).joiners
    pub settled : (c : CallId) → (new.call c).settled ≡ (if same_call id c then Some place else (old.call c).settled)

  -- what it notes of a caller that took its letter
  pub record IsTakeNoted (old new : Noted K) (a : ℕ) : Type 0 where
    pub current : (k : K) → new.current k ≡ old.current k
    pub led : (b : ℕ) → (new.caller b).led ≡ (old.caller b).led
    pub held : (b : ℕ) → (new.caller b).held ≡ (if a == b then None else (old.caller b).held)
    pub used : (b : ℕ) → (new.caller b).used ≡ (old.caller b).used
    pub call : (c : CallId) → new.call c ≡ old.call c
