-- A name's history over a chain: the histories of its tables, one behind the other.
use Rattle.std.specs.Prelude.{◌≡◌, ℕ, zero, suc, ◌+◌, ◌*◌, nat_eq, List, [], ◌∷◌, ◌++◌, map, Option, Some, None, slice_get, ⊤}
use Rattle.sf_history.specs.declared.call.CallId.{CallId}
use Rattle.sf_history.specs.declared.event.Event.TheVariants.{Lead, Enter, Forget, ForgetCall, Settle, Handed}
use Rattle.sf_history.specs.History.{open_call}
use Rattle.sf_history.specs.Legal.{MayFollow}
use Rattle.sf_keyed_tells.specs.Tells.{KeyedEvent}
use Rattle.sf_keyed_chain.specs.Chains.{Sight}

-- a call of the table of this number, from 0: no call of another has it, since a chain has 24 tables at most
abbrev pub call_at : ℕ → CallId → CallId
call_at at c = record { caller = c.caller * 24 + at; generation = c.generation }

abbrev pub own_at : ℕ → Option CallId → Option CallId
own_at at None = None
own_at at (Some c) = Some (call_at at c)

-- an event of that table; a Forget is by its caller's number, as it was
abbrev pub event_at : ℕ → KeyedEvent → KeyedEvent
event_at at (Lead by key call own) = Lead (by * 24 + at) key (call_at at call) (own_at at own)
event_at at (Enter by key call member) = Enter (by * 24 + at) key (call_at at call) (call_at at member)
event_at at (Forget by key closed) = Forget by key (own_at at closed)
event_at at (ForgetCall by key call hit) = ForgetCall by key (call_at at call) hit
event_at at (Settle by call result joiners) = Settle (by * 24 + at) (call_at at call) result joiners
event_at at (Handed by call) = Handed (by * 24 + at) (call_at at call)

abbrev pub seen_in : Option Sight → List KeyedEvent
seen_in None = []
seen_in (Some s) = s.front.seen

-- what was seen of so many tables, those of the first one before those of the second, and so on
abbrev pub history_to : ℕ → List Sight → List KeyedEvent
history_to zero sights = []
history_to (suc at) sights = history_to at sights ++ map (event_at at) (seen_in (slice_get sights at))

-- the event is one of the name, or the end of a call; a keyed group has no ForgetCall, since its Forget of one call is told as a Forget
abbrev pub IsOf : ℕ → KeyedEvent → Type 0
IsOf k (Lead by key call own) = key ≡ k
IsOf k (Enter by key call member) = key ≡ k
IsOf k (Forget by key closed) = key ≡ k
IsOf k (ForgetCall by key call hit) = ⊥
IsOf k (Settle by call result joiners) = ⊤
IsOf k (Handed by call) = ⊤

-- the name's history is legal: each of its events may follow the events before it
abbrev pub IsLegalOf : ℕ → List KeyedEvent → Type 0
IsLegalOf k h = (p q : List KeyedEvent) (e : KeyedEvent) → h ≡ p ++ e ∷ q → IsOf k e → MayFollow nat_eq p e

-- the name's history over the tables up to this one is legal, and this is its open call at the end
pub record IsOneHistory (k at : ℕ) (opened : Option CallId) (sights : List Sight) : Type 0 where
  pub legal : IsLegalOf k (history_to (suc at) sights)
  pub opened_is : open_call nat_eq (history_to (suc at) sights) k ≡ opened
