-- The history that the words tell of, whose keys are the keys, and the event that each step adds. Legal histories are those of `sf_history`
use Rattle.std.specs.Prelude.{◌≡◌, ℕ, ◌≤◌, ◌/◌, ◌%◌, nat_eq, Bool, true, false, List, [], ◌∷◌, ◌++◌, Option, Some, None}
use Rattle.sf_history.specs.declared.call.CallId.{CallId}
use Rattle.sf_history.specs.declared.event.Event.{Event}
use Rattle.sf_history.specs.declared.event.Event.TheVariants as event
use Rattle.sf_history.specs.History.{IsNew, open_call, was_led, is_settled, joined}
use Rattle.sf_history.specs.Legal.{IsLegal}
use Rattle.sf_keyed_laws.specs.Words.{Layout, Words, Keeps}
use Rattle.sf_keyed_laws.specs.Steps.{HasNoOpen, Leads, led_on, closed_one}

-- an event by names, whose results say what the holders were told, if there were any
abbrev pub KeyedEvent : Type 0
KeyedEvent = Event ℕ (Option ℕ)

-- a call's number has its cell in the lower 20 bits, and above it the cell's generation
abbrev pub call_of : ℕ → CallId
call_of e = record { caller = e % 1048576; generation = e / 1048576 }

-- The history is legal; a key's open call in it is the one whose words say that it is open; what was not led is new
pub record Tells (s : Words) (h : List KeyedEvent) : Type 0 where
  pub legal : IsLegal nat_eq h
  pub opens : (e : ℕ) → s.led e ≡ true → s.closed e ≡ false → open_call nat_eq h (s.key_of e) ≡ Some (call_of e)
  pub shuts : (k : ℕ) → HasNoOpen s k → open_call nat_eq h k ≡ None
  pub news : (e : ℕ) → s.led e ≡ false → IsNew h (call_of e)
  pub leads : (e : ℕ) → s.led e ≡ true → was_led h (e % 1048576) (call_of e) ≡ true

abbrev pub LeadTells : Type 0
LeadTells = (y : Layout) (s : Words) (n k c : ℕ) (b : Bool) (h : List KeyedEvent) → Leads y s n k c b → s.closed n ≡ false → Tells s h → Tells (led_on y s n k b) (h ++ event.Lead (n % 1048576) k (call_of n) None ∷ [])

-- an Enter changes no word that the rule reads; its member is one that no cell can be
abbrev pub EnterTells : Type 0
EnterTells = (s : Words) (e : ℕ) (m : CallId) (h : List KeyedEvent) → s.led e ≡ true → s.closed e ≡ false → 1048576 ≤ m.caller → IsNew h m → Tells s h → Tells s (h ++ event.Enter m.caller (s.key_of e) (call_of e) m ∷ [])

-- a Forget that closes the key's open call, and one that finds none
abbrev pub ForgetTells : Type 0
ForgetTells = (y : Layout) (s : Words) (by e : ℕ) (h : List KeyedEvent) → Keeps y s → s.led e ≡ true → s.closed e ≡ false → Tells s h → Tells (closed_one s e) (h ++ event.Forget by (s.key_of e) (Some (call_of e)) ∷ [])

abbrev pub IdleTells : Type 0
IdleTells = (s : Words) (by k : ℕ) (h : List KeyedEvent) → HasNoOpen s k → Tells s h → Tells s (h ++ event.Forget by k None ∷ [])

-- a Settle of a call that is not settled, open or forgotten
abbrev pub SettleTells : Type 0
SettleTells = (y : Layout) (s : Words) (e : ℕ) (v : Option ℕ) (h : List KeyedEvent) → Keeps y s → s.led e ≡ true → is_settled h (call_of e) ≡ false → Tells s h
    → Tells (closed_one s e) (h ++ event.Settle (e % 1048576) (call_of e) v (joined h (call_of e)) ∷ [])
