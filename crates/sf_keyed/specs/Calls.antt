-- What the calls leave.
use Rattle.std.specs.Prelude.{◌≡◌, ◌≢◌, ℕ, ◌+◌, ◌*◌, ◌/◌, ◌%◌, ◌<◌, ◌≤◌, Bool, true, false, List, ◌∷◌, [], ◌++◌, nat_eq, None, Some, Option}
use Rattle.sf_history.specs.declared.call.CallId.{CallId}
use Rattle.sf_history.specs.declared.event.Event.TheVariants as event
use Rattle.sf_history.specs.History.{open_call, result_of}
use Rattle.sf_history.specs.Legal.{IsLegal}
use Rattle.sf_keyed_tells.specs.Tells.{KeyedEvent, call_of}
use Rattle.sf_keyed.specs.Known.{FrontState, FlightState, IsGone}
use Rattle.sf_keyed_words.specs.Plays.{WasForgotten}
use Rattle.sf_keyed_words.specs.Rule.{slot_of, IsPrefix}
use Rattle.sf_keyed_walks.specs.Walk.{IsLastOf}
use Rattle.sf_keyed.specs.declared.group.Asked.{Asked}
use Rattle.sf_keyed.specs.declared.group.Asked.TheVariants as asked
use Rattle.sf_keyed.specs.declared.group.Claim.{Claim}
use Rattle.sf_keyed.specs.declared.group.Claim.TheVariants as claim
use Rattle.sf_keyed.specs.declared.group.Forgotten.{Forgotten}
use Rattle.sf_keyed.specs.declared.group.Forgotten.TheVariants as forgotten
use Rattle.sf_keyed.specs.declared.group.Ended.{Ended}
use Rattle.sf_keyed.specs.declared.group.Ended.TheVariants as ended
use Rattle.sf_keyed.specs.declared.group.Passed.{Passed}
use Rattle.sf_keyed.specs.declared.group.Passed.TheVariants as passed
use Rattle.sf_keyed.specs.declared.group.Swept.{Swept}
use Rattle.sf_keyed.specs.declared.group.Swept.TheVariants as swept
use Rattle.sf_keyed.specs.declared.group.Settled.{Settled}
use Rattle.sf_keyed.specs.declared.group.Settled.TheVariants as settled
use Rattle.sf_keyed.specs.declared.group.Refusal.{Refusal}
use Rattle.sf_keyed.specs.declared.group.Refusal.TheVariants as refusal

-- the caller has seen more, of which the last is this event, and the rest is others'; all of it is legal
pub record AddsTo (before after : FrontState) (x : KeyedEvent) : Type 0 where
  pub group : after.group ≡ before.group
  pub number : after.number ≡ before.number
  pub others : List KeyedEvent
  pub seen : after.seen ≡ (before.seen ++ others) ++ x ∷ []
  pub legal : IsLegal nat_eq after.seen
  pub gone : (k : ℕ) → IsGone before k → IsGone after k

-- the caller has seen more, and added nothing; all of it is legal
pub record Sees (before after : FrontState) : Type 0 where
  pub group : after.group ≡ before.group
  pub number : after.number ≡ before.number
  pub seen : IsPrefix before.seen after.seen
  pub legal : IsLegal nat_eq after.seen
  pub gone : (k : ℕ) → IsGone before k → IsGone after k

-- the caller has seen no more, and its spare cell is as before
pub record Stays (before after : FrontState) : Type 0 where
  pub group : after.group ≡ before.group
  pub number : after.number ≡ before.number
  pub seen : after.seen ≡ before.seen
  pub gone : after.gone ≡ before.gone
  pub spare : after.spare ≡ before.spare

-- a new call of the name is led
abbrev pub Led : FrontState → FrontState → ℕ → ℕ → Type 0
Led before after name call = AddsTo before after (event.Lead (call % 1048576) name (call_of call) None)

-- the name's open call is joined
pub record Joined (before after : FrontState) (name call : ℕ) : Type 0 where
  pub member : CallId
  pub adds : AddsTo before after (event.Enter member.caller name (call_of call) member)

-- the call is settled, with so many joiners in all; its holders are told the value, if there are any; a Forget had closed it or not
pub record SettledBy (before after : FrontState) (call : ℕ) (told : Option ℕ) (joined ended : Bool) : Type 0 where
  pub joiners : ℕ
  pub none : joined ≡ false → joiners ≡ 0
  pub some : joined ≡ true → joiners ≢ 0
  pub adds : AddsTo before after (event.Settle (call % 1048576) (call_of call) told joiners)
  pub was : WasForgotten (before.seen ++ adds.others) call ended

-- how a Settle ends
abbrev pub IsSettled : FrontState → FrontState → FlightState → ℕ → Settled → Type 0
IsSettled before after flight value settled.Alone = SettledBy before after flight.call None false false × (before.spare ≡ 0) × (after.spare ≡ flight.call + 1048576)
IsSettled before after flight value (settled.Told ticket on) = SettledBy before after flight.call (Some value) on.joined on.forgotten × (on.holders ≡ after.met.state % 1048576) × (ticket ≡ flight) × (after.spare ≡ before.spare)

-- the caller has seen that the call was settled with the value
pub record IsTaken (before after : FrontState) (ticket : FlightState) (value : ℕ) : Type 0 where
  pub sees : Sees before after
  pub spare : after.spare ≡ before.spare
  pub result : result_of after.seen (call_of ticket.call) ≡ Some (Some value)

-- how a look at a call ends that the caller holds: it has seen that the call was settled with the value, or that it was not settled
abbrev pub IsLooked : FrontState → FrontState → FlightState → Option ℕ → Type 0
IsLooked before after ticket (Some value) = IsTaken before after ticket value
IsLooked before after ticket None = Sees before after × (after.spare ≡ before.spare) × (after.met.state / 2097152 % 2 ≡ 0)

-- how a caller leaves a call: as the last holder of a settled one, which is told what that was settled with; or as another
abbrev pub IsLeft : FrontState → FrontState → FlightState → Option ℕ → Type 0
IsLeft before after ticket (Some value) = IsTaken before after ticket value × IsLastOf after.met.state
IsLeft before after ticket None = Sees before after × (after.spare ≡ before.spare) × (IsLastOf after.met.state → ⊥)

-- Why an asking was refused: in each try others changed a word between the load of it and the exchange; the top and all 16 side words of the slot named calls that were open; the
-- top word said that the slot is sealed; the caller had no spare cell; or the name's open call had as many holders as its state word counts
abbrev pub WhyRefused : FrontState → FrontState → ℕ → Refusal → Type 0
WhyRefused before after tries refusal.Busy = before.met.lost + tries ≤ after.met.lost
WhyRefused before after tries refusal.Full = after.met.opened ≡ 17
WhyRefused before after tries refusal.Sealed = after.met.top / 2 % 2 ≡ 1
WhyRefused before after tries refusal.NoCell = before.spare ≡ 0
WhyRefused before after tries refusal.Crowded = 1048575 ≤ after.met.state % 1048576

-- how an asking for the name ends: a new call of it is led, in the caller's spare cell; its open call is joined; or nothing was done
abbrev pub IsAsked : FrontState → FrontState → ℕ → ℕ → Asked → Type 0
IsAsked before after name tries (asked.Led flight) = Led before after name flight.call × (flight.call ≡ before.spare) × (flight.call ≢ 0) × (flight.group ≡ before.group) × (after.spare ≡ 0)
IsAsked before after name tries (asked.Joined ticket) = Joined before after name ticket.call × (ticket.group ≡ before.group) × (after.spare ≡ before.spare)
IsAsked before after name tries (asked.Refused why) = Stays before after × WhyRefused before after tries why

-- how an asking of a group that has grown ends: the name's open call is joined; or it has none, and never has one again; or nothing was done
abbrev pub IsPassed : FrontState → FrontState → ℕ → ℕ → Passed → Type 0
IsPassed before after name tries (passed.Joined ticket) = Joined before after name ticket.call × (ticket.group ≡ before.group) × (after.spare ≡ before.spare)
IsPassed before after name tries passed.Gone = Sees before after × IsGone after name × (after.spare ≡ before.spare)
IsPassed before after name tries passed.Busy = Stays before after × WhyRefused before after tries refusal.Busy
IsPassed before after name tries passed.Crowded = Stays before after × WhyRefused before after tries refusal.Crowded

-- each name of the slot is gone
abbrev pub IsQuiet : FrontState → ℕ → Type 0
IsQuiet f slot = (k : ℕ) → slot_of f.group.sizes k ≡ slot → IsGone f k

-- how a sweep of a slot ends: what was seen goes on, and each name of the slot is gone; or nothing was done, since one of them may have an open call, or others changed a word first
abbrev pub IsSwept : FrontState → FrontState → ℕ → Swept → Type 0
IsSwept before after slot swept.Quiet = Sees before after × IsQuiet after slot × (after.spare ≡ before.spare)
IsSwept before after slot swept.Open = Stays before after
IsSwept before after slot swept.Busy = Stays before after × (before.met.lost < after.met.lost)

-- a Forget of the name, by this caller, closes its open call
abbrev pub Closes : FrontState → FrontState → ℕ → ℕ → Type 0
Closes before after name call = AddsTo before after (event.Forget before.number name (Some (call_of call))) × (after.spare ≡ before.spare)

-- how a Forget of the name ends: its open call is closed; what was seen goes on, and has no open call of it at the end, where its slot's top word is not sealed, or never again; or nothing was done, since in each try others changed a word first
abbrev pub IsForgotten : FrontState → FrontState → ℕ → ℕ → Forgotten → Type 0
IsForgotten before after name tries (forgotten.Closed call) = Closes before after name call
IsForgotten before after name tries forgotten.Nothing = Sees before after × (open_call nat_eq after.seen name ≡ None) × (after.met.top / 2 % 2 ≡ 0) × (after.spare ≡ before.spare)
IsForgotten before after name tries forgotten.Gone = Sees before after × IsGone after name × (after.spare ≡ before.spare)
IsForgotten before after name tries forgotten.Busy = Stays before after × (before.met.lost + tries ≤ after.met.lost)

-- how a Forget of one call of the name ends: it is closed; what was seen goes on, and at the end it is not the name's open call; or nothing was done
abbrev pub IsEnded : FrontState → FrontState → ℕ → ℕ → ℕ → Ended → Type 0
IsEnded before after name call tries ended.Closed = Closes before after name call
IsEnded before after name call tries ended.Gone = Sees before after × (open_call nat_eq after.seen name ≢ Some (call_of call)) × (after.spare ≡ before.spare)
IsEnded before after name call tries ended.Busy = Stays before after × (before.met.lost + tries ≤ after.met.lost)

-- where the state word of the cell with this number lies, counted on from the last cell to the first
abbrev pub cell_at : FrontState → ℕ → ℕ
cell_at f cell = f.group.sizes.tops + f.group.sizes.sides + 8 * (cell % f.group.sizes.cells)

-- How a claim of a cell ends. The caller had a cell before, or it has this one now, which was free; its state word had a call, or a holder; or it has had its last call; or others took it first
abbrev pub IsClaimed : FrontState → FrontState → ℕ → Claim → Type 0
IsClaimed before after cell claim.Ready = (after.spare ≢ 0) × (before.spare ≢ 0 → after.spare ≡ before.spare) × (before.spare ≡ 0 → (after.met.place ≡ cell_at before cell) × (after.met.state % 8388608 ≡ 0) × (after.met.state < 18446744073692774400))
IsClaimed before after cell claim.InUse = (before.spare ≡ 0) × (after.spare ≡ 0) × (after.met.place ≡ cell_at before cell) × (after.met.state % 8388608 ≢ 0)
IsClaimed before after cell claim.Worn = (before.spare ≡ 0) × (after.spare ≡ 0) × (after.met.place ≡ cell_at before cell) × (18446744073692774400 ≤ after.met.state)
IsClaimed before after cell claim.Busy = (before.spare ≡ 0) × (after.spare ≡ 0) × (after.met.place ≡ cell_at before cell) × (after.met.lost ≡ before.met.lost + 1)
