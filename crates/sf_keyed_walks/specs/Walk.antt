-- What a walk leaves of the seat's view.
use Rattle.std.specs.Prelude.{◌≡◌, ◌≢◌, ℕ, ◌+◌, ◌*◌, ◌/◌, ◌%◌, ◌<◌, ◌≤◌, ◌^◌, ◌++◌, nat_eq, Bool, true, false, Option, None, Some}
use Rattle.sf_history.specs.declared.call.CallId.{CallId}
use Rattle.sf_history.specs.declared.event.Event.TheVariants as event
use Rattle.sf_history.specs.Legal.{IsLegal}
use Rattle.sf_history.specs.History.{open_call, result_of}
use Rattle.sf_keyed_tells.specs.Tells.{call_of}
use Rattle.sf_keyed_words.specs.declared.rule.KeyedSizes.{KeyedSizes}
use Rattle.sf_keyed_words.specs.declared.rule.View.{View}
use Rattle.sf_keyed_words.specs.Rule.{IsPrefix, is_gone, is_open_call, number, slot_of, word_total, Unmet}
use Rattle.sf_keyed_words.specs.Plays.{Adds, GoneHasNoCall, Grows, WasForgotten, met_closed, met_open, read_low, read_high}
use Rattle.sf_keyed_walks.specs.declared.walk.Walked.{Walked}
use Rattle.sf_keyed_walks.specs.declared.walk.Look.{Look}
use Rattle.sf_keyed_walks.specs.declared.walk.Look.TheVariants.{Closed, Other, Named}

-- the table has these sizes
abbrev pub IsLaid : KeyedSizes → ℕ → KeyedSizes → Type 0
IsLaid key total sizes = (total ≡ word_total key) × (key ≡ sizes) × (word_total sizes < 2 ^ 62) × (0 < sizes.tops) × (sizes.tops ≤ 4294967296) × (sizes.tops ≤ sizes.sides * 4) × (sizes.sides % 16 ≡ 0) × (0 < sizes.cells) × (sizes.cells ≤ 1048576)

-- what an examination of a call leaves
abbrev pub Examined : View → View → ℕ → ℕ → Look → Type 0
Examined v w call name (Closed state) = w ≡ met_closed v state
Examined v w call name (Other held state) = (w ≡ read_high (read_low (met_open v state) held.low) held.high) × (number held ≢ name)
Examined v w call name (Named state) = (w ≡ read_high (read_low (met_open v state) (name % 18446744073709551616)) (name / 18446744073709551616)) × (w.name ≡ name) × (is_open_call state call ≡ true)

-- the seat knows that the name is gone: it has no open call in the table, and never has one again
abbrev pub IsGone : View → ℕ → Type 0
IsGone v k = is_gone v.sizes v.gone k ≡ true

-- what is gone is so still
abbrev pub GoneLasts : View → View → Type 0
GoneLasts v w = (k : ℕ) → IsGone v k → IsGone w k

-- a walk changes nothing but how far the seat has walked, and how many exchanges it has lost
pub record Stays (v w : View) : Type 0 where
  pub sizes : w.sizes ≡ v.sizes
  pub number : w.number ≡ v.number
  pub own : w.own ≡ v.own
  pub leads : w.leads ≡ v.leads
  pub ticket : w.ticket ≡ v.ticket
  pub last : w.last ≡ v.last
  pub seen : w.seen ≡ v.seen
  pub lost : v.lost ≤ w.lost
  pub gone : w.gone ≡ v.gone

-- the top and so many side words were looked at, and are of no use
pub record HasLooked (v : View) (slot found at name : ℕ) : Type 0 where
  pub walks : v.walks ≡ true
  pub slot_is : v.slot ≡ slot
  pub found_is : v.found ≡ found
  pub top_is : v.top ≡ found / 4
  pub looked : v.looked ≡ at
  pub clear : v.clear ≡ true
  pub other : v.other ≡ true
  pub unmet : Unmet v.names name

-- the walk met no name of the slot
abbrev pub MetNone : KeyedSizes → ℕ → View → Type 0
MetNone sizes slot v = (k : ℕ) → slot_of sizes k ≡ slot → Unmet v.names k

-- what the walk has shown so far: whether the top has to be set aside yet, whether a name of the slot was met, and whether another took a side word first
pub record Shown (sizes : KeyedSizes) (slot at : ℕ) (v w : View) (aside : Bool) (on : Walked) : Type 0 where
  pub saved_is : on.aside ≡ false → (aside ≡ false → v.saved ≡ true) → w.saved ≡ true
  pub opened : on.aside ≡ true → on.taken ≡ false → w.opened ≡ at + 1
  pub taken : on.taken ≡ true → v.lost < w.lost
  pub marks : on.marks ≡ false → MetNone sizes slot w

-- the same after the look at the top
pub record Began (sizes : KeyedSizes) (slot found name : ℕ) (w : View) (leads : Bool) (on : Walked) : Type 0 where
  pub looked : HasLooked w slot found 0 name
  pub saved_is : leads ≡ true → on.aside ≡ false → w.saved ≡ true
  pub opened : on.aside ≡ true → w.opened ≡ 1
  pub taken : on.taken ≡ false
  pub marks : on.marks ≡ false → MetNone sizes slot w

-- and at the end, where no call of the name was met
pub record WentThrough (sizes : KeyedSizes) (slot found name : ℕ) (w : View) (leads : Bool) (on : Walked) : Type 0 where
  pub walks : w.walks ≡ true
  pub slot_is : w.slot ≡ slot
  pub found_is : w.found ≡ found
  pub top_is : w.top ≡ found / 4
  pub looked : found % 2 ≡ 1 → w.looked ≡ 16
  pub clear : w.clear ≡ true
  pub other : w.other ≡ true
  pub unmet : Unmet w.names name
  pub saved_is : leads ≡ true → on.aside ≡ false → w.saved ≡ true
  pub opened : on.aside ≡ true → on.taken ≡ false → w.opened ≡ 17
  pub marks : on.marks ≡ false → MetNone sizes slot w

-- a call of the name was met, which was open
pub record HasMet (sizes : KeyedSizes) (w : View) (call state name : ℕ) : Type 0 where
  pub but : w.but ≡ call
  pub cell : call % 1048576 < sizes.cells
  pub told : w.told ≡ true
  pub name_is : w.name ≡ name
  pub opened : is_open_call state call ≡ true
  pub state_is : w.state ≡ state

-- a new call of the name is led
pub record HasLed (v w : View) (own name : ℕ) : Type 0 where
  pub sizes : w.sizes ≡ v.sizes
  pub number : w.number ≡ v.number
  pub leads : w.leads ≡ own
  pub own_is : w.own ≡ 0
  pub ticket : w.ticket ≡ v.ticket
  pub adds : Adds v w (event.Lead (own % 1048576) name (call_of own) None)
  pub gone : w.gone ≡ v.gone

-- the seat is a holder of the name's open call
pub record HasJoined (v w : View) (call name : ℕ) : Type 0 where
  pub sizes : w.sizes ≡ v.sizes
  pub number : w.number ≡ v.number
  pub ticket : w.ticket ≡ call
  pub own_is : w.own ≡ v.own
  pub leads : w.leads ≡ v.leads
  pub member : CallId
  pub adds : Adds v w (event.Enter member.caller name (call_of call) member)
  pub gone : w.gone ≡ v.gone

-- the call is settled with this result: with no joiner where the bit is 0, and with some where it is 1
pub record HasSettled (v w : View) (call : ℕ) (told : Option ℕ) (bit : ℕ) (forgotten : Bool) : Type 0 where
  pub sizes : w.sizes ≡ v.sizes
  pub number : w.number ≡ v.number
  pub leads : w.leads ≡ 0
  pub joiners : ℕ
  pub none : bit ≡ 0 → joiners ≡ 0
  pub some : bit ≡ 1 → joiners ≢ 0
  pub adds : Adds v w (event.Settle (call % 1048576) (call_of call) told joiners)
  pub was : WasForgotten (v.seen ++ adds.before) call forgotten
  pub gone : w.gone ≡ v.gone

-- the name's open call is closed
pub record HasClosed (v w : View) (call name : ℕ) : Type 0 where
  pub sizes : w.sizes ≡ v.sizes
  pub number : w.number ≡ v.number
  pub own_is : w.own ≡ v.own
  pub leads : w.leads ≡ v.leads
  pub ticket : w.ticket ≡ v.ticket
  pub adds : Adds v w (event.Forget v.number name (Some (call_of call)))
  pub gone : w.gone ≡ v.gone

-- the seat has seen more, at whose end the name has no open call
pub record HasNone (v w : View) (name : ℕ) : Type 0 where
  pub sizes : w.sizes ≡ v.sizes
  pub number : w.number ≡ v.number
  pub own_is : w.own ≡ v.own
  pub leads : w.leads ≡ v.leads
  pub ticket : w.ticket ≡ v.ticket
  pub grows : Grows v w
  pub none : open_call nat_eq w.seen name ≡ None
  pub gone : GoneLasts v w

-- the seat has seen more, at whose end the name has another open call
pub record HasOther (v w : View) (call name : ℕ) (only : Option ℕ) : Type 0 where
  pub sizes : w.sizes ≡ v.sizes
  pub number : w.number ≡ v.number
  pub own_is : w.own ≡ v.own
  pub leads : w.leads ≡ v.leads
  pub ticket : w.ticket ≡ v.ticket
  pub grows : Grows v w
  pub other : open_call nat_eq w.seen name ≡ Some (call_of call)
  pub apart : only ≢ Some call
  pub gone : w.gone ≡ v.gone

-- the seat is a holder of the call no more, and has seen more, in which the call was settled with this value
pub record HasTaken (v w : View) (call value : ℕ) : Type 0 where
  pub sizes : w.sizes ≡ v.sizes
  pub number : w.number ≡ v.number
  pub own_is : w.own ≡ v.own
  pub leads : w.leads ≡ v.leads
  pub ticket : w.ticket ≡ 0
  pub grows : Grows v w
  pub result : result_of w.seen (call_of call) ≡ Some (Some value)
  pub gone : w.gone ≡ v.gone

-- the seat knows what the call was settled with, and is its holder still
pub record HasRead (v w : View) (call value : ℕ) : Type 0 where
  pub sizes : w.sizes ≡ v.sizes
  pub number : w.number ≡ v.number
  pub own_is : w.own ≡ v.own
  pub leads : w.leads ≡ v.leads
  pub grows : Grows v w
  pub result : result_of w.seen (call_of call) ≡ Some (Some value)
  pub gone : w.gone ≡ v.gone

-- of a settled call, whose state this is, there is one holder
abbrev pub IsLastOf : ℕ → Type 0
IsLastOf state = (state % 1048576 ≡ 1) × (state / 2097152 % 2 ≡ 1)

-- the seat is a holder no more
pub record HasLeft (v w : View) : Type 0 where
  pub sizes : w.sizes ≡ v.sizes
  pub number : w.number ≡ v.number
  pub own_is : w.own ≡ v.own
  pub leads : w.leads ≡ v.leads
  pub ticket : w.ticket ≡ 0
  pub seen : IsPrefix v.seen w.seen
  pub legal : IsLegal nat_eq v.seen → IsLegal nat_eq w.seen
  pub none : GoneHasNoCall v → GoneHasNoCall w
  pub gone : w.gone ≡ v.gone

-- whatever a walk found, the calls of the seat are as before
pub record KeepsCalls (v w : View) : Type 0 where
  pub sizes : w.sizes ≡ v.sizes
  pub number : w.number ≡ v.number
  pub own : w.own ≡ v.own
  pub leads : w.leads ≡ v.leads
  pub ticket : w.ticket ≡ v.ticket
  pub gone : GoneLasts v w

-- the seat has seen more, and each name of the slot that the walk did not meet is gone
pub record HasSealed (v w : View) (slot : ℕ) : Type 0 where
  pub keeps : KeepsCalls v w
  pub grows : Grows v w
  pub none : (k : ℕ) → slot_of w.sizes k ≡ slot → Unmet v.names k → open_call nat_eq w.seen k ≡ None
  pub all : (k : ℕ) → slot_of w.sizes k ≡ slot → Unmet v.names k → IsGone w k

-- the seat has seen more, and each name of the slot is gone
pub record HasSwept (v w : View) (slot : ℕ) : Type 0 where
  pub keeps : KeepsCalls v w
  pub grows : Grows v w
  pub all : (k : ℕ) → slot_of w.sizes k ≡ slot → IsGone w k
