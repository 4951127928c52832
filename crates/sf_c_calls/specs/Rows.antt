-- What calls leave of what a program holds.
use Rattle.std.specs.Prelude.{◌≡◌, ◌≢◌, ◌⊎◌, ℕ, ◌+◌, ◌*◌, ◌/◌, ◌%◌, ◌<◌, ◌≤◌, Bool, true, false, List, Option, None, Some, length, slice_get, ⊤}
use Rattle.sf_keyed.specs.Names.{short_name, long_name}
use Rattle.sf_keyed.specs.declared.names.Names.{Names}
use Rattle.sf_keyed.specs.declared.group.Audience.{Audience}
use Rattle.sf_keyed.specs.declared.group.Claim.{Claim}
use Rattle.sf_keyed.specs.declared.group.Claim.TheVariants as claim
use Rattle.sf_keyed.specs.declared.group.Refusal.{Refusal}
use Rattle.sf_keyed.specs.declared.group.Refusal.TheVariants as refusal
use Rattle.sf_keyed_chain.specs.Chains.{Sight, AllGoOn, IsOf, IsTokenOf, TokenState}
use Rattle.sf_keyed_chain.specs.Went.{HasClaimed, HasLeft, HasLooked, HasSettled, IsJoinedAt, IsLedAt, IsRefusedAt}
use Rattle.sf_keyed_chain.specs.declared.chain.Settled.TheVariants as settled
use Rattle.sf_keyed_chain.specs.declared.chain.Reply.{Reply}
use Rattle.sf_keyed_chain.specs.declared.chain.Reply.TheVariants as reply
use Rattle.sf_c_calls.specs.declared.asking.Token.{Token}
use Rattle.sf_c_calls.specs.declared.asking.Token.TheVariants as token
use Rattle.sf_c_calls.specs.declared.session.Id.{Id}
use Rattle.sf_c_calls.specs.declared.session.Answered.{Answered}
use Rattle.sf_c_calls.specs.declared.session.Answered.TheVariants as answered
use Rattle.sf_c_calls.specs.declared.session.Settling.{Settling}
use Rattle.sf_c_calls.specs.declared.session.Settling.TheVariants as settling
use Rattle.sf_c_calls.specs.declared.session.Looking.{Looking}
use Rattle.sf_c_calls.specs.declared.session.Looking.TheVariants as looking
use Rattle.sf_c_calls.specs.declared.session.Leaving.{Leaving}
use Rattle.sf_c_calls.specs.declared.session.Leaving.TheVariants as leaving

-- what clauses see of a handle: its group, the seeds of names, and what its caller has seen
pub record SessionState : Type 0 where
  pub cells : List ℕ
  pub names : Names
  pub sights : List Sight

-- of a call: its group, the seeds of names, and what it leads or holds
pub record AskingState : Type 0 where
  pub cells : List ℕ
  pub names : Names
  pub token : Token

-- what it leads or holds is of the group
abbrev pub IsTokenFor : List ℕ → Token → Type 0
IsTokenFor cells token.Idle = ⊤
IsTokenFor cells (token.Leads flight) = IsTokenOf cells flight
IsTokenFor cells (token.Holds ticket) = IsTokenOf cells ticket

abbrev pub is_idle : Token → Bool
is_idle token.Idle = true
is_idle (token.Leads flight) = false
is_idle (token.Holds ticket) = false

abbrev pub is_leader : Token → Bool
is_leader token.Idle = false
is_leader (token.Leads flight) = true
is_leader (token.Holds ticket) = false

abbrev pub is_holder : Token → Bool
is_holder token.Idle = false
is_holder (token.Leads flight) = false
is_holder (token.Holds ticket) = true

-- the handle is of the same group, by the same seeds
pub record IsSame (s t : SessionState) : Type 0 where
  pub cells : t.cells ≡ s.cells
  pub names : t.names ≡ s.names

pub record IsSameCall (a b : AskingState) : Type 0 where
  pub cells : b.cells ≡ a.cells
  pub names : b.names ≡ a.names

-- A handle and a call by the same seeds are of one group, since no two groups have the same seeds
abbrev pub IsOne : SessionState → AskingState → Type 0
IsOne s a = s.names ≡ a.names → s.cells ≡ a.cells

-- a new group's first handle
pub record HasOpened (seed0 seed1 : ℕ) (s : SessionState) : Type 0 where
  pub of : IsOf s.cells s.sights
  pub first : length s.sights ≡ 1
  pub seeds : (s.names.seed0 ≡ seed0) × (s.names.seed1 ≡ seed1)

-- another handle of the group
pub record HasSplit (s t : SessionState) : Type 0 where
  pub same : IsSame s t
  pub first : length t.sights ≡ 1

-- an idle call of the group
pub record HasMade (s : SessionState) (a : AskingState) : Type 0 where
  pub cells : a.cells ≡ s.cells
  pub names : a.names ≡ s.names
  pub idle : a.token ≡ token.Idle

-- this is the key's name
pub record IsNameOf (names : Names) (key : List ℕ) (name : ℕ) : Type 0 where
  pub short : length key ≤ 15 → name ≡ short_name key
  pub long : 15 < length key → name ≡ long_name names key

-- this is what the call is named by
pub record IsIdOf (call : TokenState) (id : Id) : Type 0 where
  pub table : id.table ≡ call.table % 4294967296
  pub cell : id.cell ≡ call.call.call % 1048576
  pub generation : id.generation ≡ call.call.call / 1048576

-- what was seen went on first, as where a cell was claimed
pub record Then (so : List Sight → List Sight → Type 0) (old new : List Sight) : Type 0 where
  pub between : List Sight
  pub on : AllGoOn old between
  pub is : so between new

-- a caller has a cell to spare in the last table that it knows
pub record HasSpare (sights : List Sight) : Type 0 where
  pub at : ℕ
  pub last : at + 1 ≡ length sights
  pub sight : Sight
  pub here : slice_get sights at ≡ Some sight
  pub spare : sight.front.spare ≢ 0

-- so many cells of the last table were looked at, one after the other from this one on, and none could be had
pub record HasSearched (count cell : ℕ) (old new : List Sight) : Type 0 where
  pub after : ℕ → List Sight
  pub begins : after 0 ≡ old
  pub ends : after count ≡ new
  pub none : (i : ℕ) → i < count → (r : Claim) × (r ≢ claim.Ready) × HasClaimed ((cell + i) % 18446744073709551616) (after i) (after (i + 1)) r

-- an asking was refused for this cause; what was seen went on before and after; and where the caller had no cell to spare, 64 cells were looked at
pub record Refuses (k tries : ℕ) (why : Refusal) (old new : List Sight) : Type 0 where
  pub before : List Sight
  pub after : List Sight
  pub on : AllGoOn old before
  pub at : ℕ
  pub refused : IsRefusedAt k tries why at before after
  pub then : AllGoOn after new
  pub searched : why ≡ refusal.NoCell → (cell : ℕ) × HasSearched 64 cell after new

-- how an asking of a chain ends, for which a cell is claimed where that is needed
abbrev pub HasFound : List ℕ → ℕ → ℕ → List Sight → List Sight → Reply → Type 0
HasFound cells k tries old new (reply.Led flight stamp) = Then (IsLedAt cells k flight stamp) old new
HasFound cells k tries old new (reply.Joined ticket) = Then (IsJoinedAt cells k ticket) old new
HasFound cells k tries old new (reply.Refused why) = Refuses k tries why old new

-- how an asking of a handle's group ends, by a call
abbrev pub HasAnswered : SessionState → SessionState → ℕ → ℕ → Token → Token → Answered → Type 0
HasAnswered s t k tries a b (answered.Led id stamp) = (a ≡ token.Idle) × ((flight : TokenState) × (b ≡ token.Leads flight) × IsIdOf flight id × Then (IsLedAt s.cells k flight stamp) s.sights t.sights)
HasAnswered s t k tries a b (answered.Joined id) = (a ≡ token.Idle) × ((ticket : TokenState) × (b ≡ token.Holds ticket) × IsIdOf ticket id × Then (IsJoinedAt s.cells k ticket) s.sights t.sights)
HasAnswered s t k tries a b answered.Full = (a ≡ token.Idle) × (b ≡ a) × (Refuses k tries refusal.Full s.sights t.sights ⊎ Refuses k tries refusal.NoCell s.sights t.sights)
HasAnswered s t k tries a b answered.Crowded = (a ≡ token.Idle) × (b ≡ a) × Refuses k tries refusal.Crowded s.sights t.sights
HasAnswered s t k tries a b answered.Busy = (a ≡ token.Idle) × (b ≡ a) × (Refuses k tries refusal.Busy s.sights t.sights ⊎ Refuses k tries refusal.Sealed s.sights t.sights)
HasAnswered s t k tries a b answered.Wrong = (t ≡ s) × (b ≡ a)

-- a call that nobody had joined, and no Forget had closed, is settled, and its leader has left it
pub record HasSettledAlone (old new : List Sight) (flight : TokenState) (value : ℕ) : Type 0 where
  pub between : List Sight
  pub on : Audience
  pub unjoined : on.joined ≡ false
  pub unforgotten : on.forgotten ≡ false
  pub settles : HasSettled old between flight value (settled.Told flight on)
  pub end : Option ℕ
  pub leaves : HasLeft between new flight end

-- how a Settle ends, by a call
abbrev pub HasSettledCall : SessionState → SessionState → ℕ → Token → Token → Settling → Type 0
HasSettledCall s t value a b settling.Alone = (flight : TokenState) × (a ≡ token.Leads flight) × (b ≡ token.Idle) × (HasSettled s.sights t.sights flight value settled.Alone ⊎ HasSettledAlone s.sights t.sights flight value)
HasSettledCall s t value a b (settling.Told on) = (flight : TokenState) × (a ≡ token.Leads flight) × (b ≡ token.Holds flight) × ((on.joined ≡ true) ⊎ (on.forgotten ≡ true)) × HasSettled s.sights t.sights flight value (settled.Told flight on)
HasSettledCall s t value a b settling.Wrong = (t ≡ s) × (b ≡ a)

-- how a look ends
abbrev pub HasLookedAt : SessionState → SessionState → Token → Looking → Type 0
HasLookedAt s t a (looking.Settled value) = (ticket : TokenState) × (a ≡ token.Holds ticket) × HasLooked s.sights t.sights ticket (Some value)
HasLookedAt s t a looking.Pending = (ticket : TokenState) × (a ≡ token.Holds ticket) × HasLooked s.sights t.sights ticket None
HasLookedAt s t a looking.Wrong = t ≡ s

-- how a call is left
abbrev pub HasLeftCall : SessionState → SessionState → Token → Token → Leaving → Type 0
HasLeftCall s t a b (leaving.Last value) = (ticket : TokenState) × (a ≡ token.Holds ticket) × (b ≡ token.Idle) × HasLeft s.sights t.sights ticket (Some value)
HasLeftCall s t a b leaving.Left = (ticket : TokenState) × (a ≡ token.Holds ticket) × (b ≡ token.Idle) × HasLeft s.sights t.sights ticket None
HasLeftCall s t a b leaving.Wrong = (t ≡ s) × (b ≡ a)

-- the number of the call that is named so, in its table
abbrev pub call_of : Id → ℕ
call_of id = (id.generation * 1048576 % 18446744073709551616 + id.cell) % 18446744073709551616
