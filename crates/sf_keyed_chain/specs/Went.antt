-- How calls on a chain end.
use Rattle.std.specs.Prelude.{◌≡◌, ◌≢◌, ℕ, ◌+◌, ◌/◌, ◌%◌, ◌<◌, ◌≤◌, false, nat_eq, None, Some, Option, List, length, ⊤, ◌⊎◌, slice_get}
use Rattle.sf_history.specs.History.{open_call}
use Rattle.sf_keyed_ages.specs.Stamps.{IsNotStill, IsStill}
use Rattle.sf_keyed.specs.declared.group.Claim.{Claim}
use Rattle.sf_keyed.specs.Calls.{Led, Joined, Stays, Sees, WhyRefused, Closes, IsClaimed, IsLeft, IsLooked, SettledBy}
use Rattle.sf_keyed.specs.declared.group.Ended.{Ended}
use Rattle.sf_keyed.specs.declared.group.Ended.TheVariants as ended
use Rattle.sf_keyed.specs.declared.group.Refusal.{Refusal}
use Rattle.sf_keyed.specs.declared.group.Refusal.TheVariants as refusal
use Rattle.sf_keyed_tells.specs.Tells.{call_of}
use Rattle.sf_keyed_chain.specs.Chains.{Sight, EndsStamp, Called, CalledBy, AllHeard, IsEndedBefore, IsEndedIn, IsGoneBefore, IsStampOf, IsTokenOf, TokenState}
use Rattle.sf_keyed_chain.specs.declared.chain.Forgotten.{Forgotten}
use Rattle.sf_keyed_chain.specs.declared.chain.Forgotten.TheVariants as forgotten
use Rattle.sf_keyed_chain.specs.declared.chain.Settled.{Settled}
use Rattle.sf_keyed_chain.specs.declared.chain.Settled.TheVariants as settled
use Rattle.sf_keyed_chain.specs.declared.chain.Shut.{Shut}
use Rattle.sf_keyed_chain.specs.declared.chain.Shut.TheVariants as shut
use Rattle.sf_keyed_chain.specs.declared.chain.Stamp.{Stamp}
use Rattle.sf_keyed_chain.specs.declared.chain.Step.{Step}
use Rattle.sf_keyed_chain.specs.declared.chain.Step.TheVariants as step
use Rattle.sf_keyed_chain.specs.declared.chain.Reply.{Reply}
use Rattle.sf_keyed_chain.specs.declared.chain.Reply.TheVariants as reply

-- a new call of the name is led in the table of this number, in the caller's spare cell, with a stamp that was drawn before, and in each table before it the name is gone
pub record IsLedAt (cells : List ℕ) (k : ℕ) (flight : TokenState) (stamp : Stamp) (old new : List Sight) : Type 0 where
  pub led : Called (λ b a. Led b a k flight.call.call × (flight.call.call ≡ b.spare) × (flight.call.call ≢ 0) × (flight.call.group ≡ b.group) × (a.spare ≡ 0)) flight.table old new
  pub token : IsTokenOf cells flight
  pub last : flight.table + 1 ≡ length new
  pub stamp_table : stamp.table ≡ flight.table
  pub stamped : IsStampOf k stamp.table stamp.slot stamp.age old new
  pub gone : IsGoneBefore k flight.table new

-- the name's open call in that table is joined, and in each table before it the name is gone
pub record IsJoinedAt (cells : List ℕ) (k : ℕ) (ticket : TokenState) (old new : List Sight) : Type 0 where
  pub joined : Called (λ b a. Joined b a k ticket.call.call × (ticket.call.group ≡ b.group) × (a.spare ≡ b.spare)) ticket.table old new
  pub token : IsTokenOf cells ticket
  pub gone : IsGoneBefore k ticket.table new

-- a table other than the last one that is known refuses for these two causes alone
abbrev pub IsLastFor : Refusal → ℕ → ℕ → Type 0
IsLastFor refusal.Busy at tables = ⊤
IsLastFor refusal.Crowded at tables = ⊤
IsLastFor refusal.Full at tables = at + 1 ≡ tables
IsLastFor refusal.Sealed at tables = at + 1 ≡ tables
IsLastFor refusal.NoCell at tables = at + 1 ≡ tables

-- an asking of the table of this number was refused for this cause, and in each table before it the name is gone
pub record IsRefusedAt (k tries : ℕ) (why : Refusal) (at : ℕ) (old new : List Sight) : Type 0 where
  pub refused : Called (λ b a. Stays b a × WhyRefused b a tries why) at old new
  pub last : IsLastFor why at (length new)
  pub gone : IsGoneBefore k at new

-- how an asking of a chain ends
abbrev pub HasReplied : List ℕ → ℕ → ℕ → List Sight → List Sight → Reply → Type 0
HasReplied cells k tries old new (reply.Led flight stamp) = IsLedAt cells k flight stamp old new
HasReplied cells k tries old new (reply.Joined ticket) = IsJoinedAt cells k ticket old new
HasReplied cells k tries old new (reply.Refused why) = (at : ℕ) × IsRefusedAt k tries why at old new

-- an asking goes on: it has seen more, and the name is gone in the tables before the one where it goes on; it has come nearer to the end of the chain
pub record HasGoneOn (k at to : ℕ) (old new : List Sight) : Type 0 where
  pub heard : AllHeard old new
  pub within : to < length new
  pub nearer : at + length old < to + length new
  pub gone : IsGoneBefore k to new

-- how an asking of one of its tables ends
abbrev pub HasStepped : List ℕ → ℕ → ℕ → ℕ → List Sight → List Sight → Step → Type 0
HasStepped cells k at tries old new (step.Led flight stamp) = IsLedAt cells k flight stamp old new
HasStepped cells k at tries old new (step.Joined ticket) = IsJoinedAt cells k ticket old new
HasStepped cells k at tries old new (step.Refused why) = (to : ℕ) × IsRefusedAt k tries why to old new
HasStepped cells k at tries old new (step.On to) = HasGoneOn k at to old new

-- how a claim of a cell ends, in the last table that is known
abbrev pub HasClaimed : ℕ → List Sight → List Sight → Claim → Type 0
HasClaimed cell old new r = (at : ℕ) × (at + 1 ≡ length new) × Called (λ b a. IsClaimed b a cell r) at old new

-- a Forget of the name closes its open call in the table of this number, and in each table before it the name is gone
pub record IsClosedAt (k at call : ℕ) (old new : List Sight) : Type 0 where
  pub closed : Called (λ b a. Closes b a k call) at old new
  pub gone : IsGoneBefore k at new

-- it finds that the name has no open call in that table, where its slot is not sealed, and in each table before it the name is gone
pub record IsIdleAt (k at : ℕ) (old new : List Sight) : Type 0 where
  pub idle : Called (λ b a. Sees b a × (open_call nat_eq a.seen k ≡ None) × (a.met.top / 2 % 2 ≡ 0) × (a.spare ≡ b.spare)) at old new
  pub gone : IsGoneBefore k at new

-- the name is gone in all tables that are known
pub record IsGoneInAll (k : ℕ) (old new : List Sight) : Type 0 where
  pub heard : AllHeard old new
  pub gone : IsGoneBefore k (length new) new

-- it lost an exchange in each try at one table
abbrev pub IsBusyAt : ℕ → ℕ → List Sight → List Sight → Type 0
IsBusyAt tries at old new = Called (λ b a. Stays b a × (b.met.lost + tries ≤ a.met.lost)) at old new

abbrev pub HasShut : ℕ → ℕ → ℕ → List Sight → List Sight → Shut → Type 0
HasShut k at tries old new (shut.Closed call) = IsClosedAt k at call old new
HasShut k at tries old new shut.Nothing = IsIdleAt k at old new
HasShut k at tries old new shut.On = HasGoneOn k at (at + 1) old new
HasShut k at tries old new shut.Behind = IsGoneInAll k old new × (at + 1 ≡ length new)
HasShut k at tries old new shut.Busy = IsBusyAt tries at old new

-- in that table what was stamped before is ended, unless it was busy
abbrev pub HasEnded : ℕ → ℕ → List Sight → List Sight → Shut → Type 0
HasEnded k at old new (shut.Closed call) = IsEndedIn k at old new
HasEnded k at old new shut.Nothing = IsEndedIn k at old new
HasEnded k at old new shut.On = IsEndedIn k at old new
HasEnded k at old new shut.Behind = IsEndedIn k at old new
HasEnded k at old new shut.Busy = ⊤

-- How a Forget of a name ends. Where it closes a call, or finds none, what was stamped before is ended in that table and in each before it
abbrev pub HasForgotten : ℕ → ℕ → List Sight → List Sight → Forgotten → Type 0
HasForgotten k tries old new (forgotten.Closed at call) = IsClosedAt k at call old new × IsEndedBefore k (at + 1) old new
HasForgotten k tries old new (forgotten.Nothing at) = IsIdleAt k at old new × IsEndedBefore k (at + 1) old new
HasForgotten k tries old new forgotten.Behind = IsGoneInAll k old new × IsEndedBefore k (length new) old new
HasForgotten k tries old new forgotten.Busy = (at : ℕ) × IsBusyAt tries at old new

-- How a Forget of one call ends, which has this stamp: the call is closed; or it is not the name's open call, and what has the stamp is ended; or nothing was done, since others changed a word first, in each try
abbrev pub HasForgottenCall : ℕ → ℕ → Stamp → ℕ → List Sight → List Sight → Ended → Type 0
HasForgottenCall k call stamp tries old new ended.Closed = Called (λ b a. Closes b a k call) stamp.table old new
HasForgottenCall k call stamp tries old new ended.Gone = (length new ≤ stamp.table) ⊎ (Called (λ b a. Sees b a × (open_call nat_eq a.seen k ≢ Some (call_of call)) × (a.spare ≡ b.spare)) stamp.table old new × ((s : Sight) × (slice_get new stamp.table ≡ Some s) × EndsStamp s stamp.slot stamp.age))
HasForgottenCall k call stamp tries old new ended.Busy = IsBusyAt tries stamp.table old new

-- the stamp is current: no Forget that the caller knows of has ended it
pub record IsCurrent (stamp : Stamp) (new : List Sight) : Type 0 where
  pub sight : Sight
  pub here : slice_get new stamp.table ≡ Some sight
  pub still : IsStill sight.known stamp.slot stamp.age

-- it is not; or it is no stamp of the chain
pub record IsOver (stamp : Stamp) (sight : Sight) : Type 0 where
  pub other : (sight.front.group.sizes.tops ≤ stamp.slot) ⊎ IsNotStill sight.known stamp.slot stamp.age

abbrev pub IsNotCurrent : Stamp → List Sight → Type 0
IsNotCurrent stamp new = (length new ≤ stamp.table) ⊎ ((s : Sight) × (slice_get new stamp.table ≡ Some s) × IsOver stamp s)

-- how a Settle ends: nobody is told the value, and the caller has the cell to spare; or it is told, and the caller holds the call
abbrev pub HasSettled : List Sight → List Sight → TokenState → ℕ → Settled → Type 0
HasSettled old new flight value settled.Alone = CalledBy (λ b a. SettledBy b a flight.call.call None false false × (b.spare ≡ 0) × (a.spare ≡ flight.call.call + 1048576)) flight.table flight.call.group old new
HasSettled old new flight value (settled.Told ticket on) = CalledBy (λ b a. SettledBy b a flight.call.call (Some value) on.joined on.forgotten × (on.holders ≡ a.met.state % 1048576) × (a.spare ≡ b.spare)) flight.table flight.call.group old new × (ticket ≡ flight)

-- how a look at a call ends that the caller holds
abbrev pub HasLooked : List Sight → List Sight → TokenState → Option ℕ → Type 0
HasLooked old new ticket r = CalledBy (λ b a. IsLooked b a ticket.call r) ticket.table ticket.call.group old new

-- how its holder leaves it
abbrev pub HasLeft : List Sight → List Sight → TokenState → Option ℕ → Type 0
HasLeft old new ticket r = CalledBy (λ b a. IsLeft b a ticket.call r) ticket.table ticket.call.group old new
