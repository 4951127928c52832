-- What each step leaves of the seat's view.
use Rattle.std.specs.Prelude.{◌≡◌, ◌≢◌, ℕ, ◌+◌, ◌-◌, ◌*◌, ◌/◌, ◌%◌, ◌<◌, ◌==◌, ◌&&◌, nat_eq, Bool, true, false, cond, List, [], ◌∷◌, ◌++◌, Option, Some, None}
use Rattle.sf_history.specs.declared.call.CallId.{CallId}
use Rattle.sf_keyed_tells.specs.Tells.{KeyedEvent}
use Rattle.sf_history.specs.declared.event.Event.TheVariants as event
use Rattle.sf_history.specs.History.{open_call, result_of}
use Rattle.sf_history.specs.Legal.{IsLegal}
use Rattle.sf_keyed_tells.specs.Tells.{call_of}
use Rattle.sf_keyed_words.specs.declared.rule.Gone.{Gone}
use Rattle.sf_keyed_words.specs.declared.rule.View.{View}
use Rattle.sf_keyed_words.specs.Rule.{both, slot_of, is_gone, is_open_call, joined_bit, is_forgotten, Unmet, IsPrefix}

-- a walk begins at the call that a slot's top word names
abbrev pub walk_from : View → ℕ → ℕ → View
walk_from v p n = record v { walks = true; slot = p; found = n; top = n / 4; other = false; saved = false; but = n / 4; clear = false; dead = false; half = false; told = false; names = []; looked = 0; opened = 0; counted = false }

-- and what a word names lies in the table
abbrev pub HasCell : View → ℕ → Type 0
HasCell v n = 0 < v.sizes.cells → n / 4 % 1048576 < v.sizes.cells

abbrev pub walks_from : View → ℕ → ℕ → View → Type 0
walks_from v p n w = (w ≡ walk_from v p n) × HasCell v n

-- the next side word names this call, which is aside then if it is the top
abbrev pub walk_on : View → ℕ → View
walk_on v n = record v { saved = cond (n / 4 == v.top) true v.saved; aside = n; but = n / 4; clear = false; dead = false; half = false; told = false; looked = v.looked + 1; counted = false }

abbrev pub walks_on : View → ℕ → View → Type 0
walks_on v n w = (w ≡ walk_on v n) × HasCell v n

-- the call that is looked at is closed; the top too is looked at so, before the first side word
abbrev pub closes : View → View
closes v = record v { other = cond (v.but == v.top) true v.other; saved = cond (v.but == v.top) true v.saved; clear = true; dead = true }

abbrev pub met_closed : View → ℕ → View
met_closed v n = closes (record v { state = n })

-- or open, which is counted once
abbrev pub met_open : View → ℕ → View
met_open v n = record v { state = n; opened = cond v.counted v.opened (v.opened + 1); counted = true }

abbrev pub see_state : View → ℕ → View
see_state v n = cond (is_open_call n v.but) (met_open v n) (met_closed v n)

-- its name has this lower word, if it is open
abbrev pub read_low : View → ℕ → View
read_low v n = record v { half = true; low = n }

-- and then it has this name
abbrev pub read_as : View → ℕ → View
read_as v name = record v { other = cond (v.but == v.top) true v.other; clear = true; told = true; name = name; names = name ∷ v.names }

abbrev pub read_high : View → ℕ → View
read_high v n = read_as v (both v.low n)

abbrev pub begun_as : View → ℕ → View
begun_as v n = record v { first = true; start = n; named = false }

abbrev pub named_as : View → ℕ → View
named_as v n = record v { named = true; key = both v.start n }

abbrev pub stored_as : View → ℕ → View
stored_as v n = record v { stored = true; value = n }

-- the next call of the cell, whose state word this is
abbrev pub next_call : View → ℕ → ℕ → ℕ
next_call v at old = (old / 8388608 + 1) * 1048576 + (at - (v.sizes.tops + v.sizes.sides)) / 8

-- the seat has lost an exchange
abbrev pub loses : View → View
loses v = record v { lost = v.lost + 1 }

-- the state of a cell that may be claimed
abbrev pub look_cell : View → ℕ → ℕ → View
look_cell v at n = record v { place = at; state = n }

-- the seat has this number, by which its Forgets are
abbrev pub numbered : View → ℕ → View
numbered v n = record v { number = n }

abbrev pub try_claim : View → ℕ → ℕ → ℕ → View
try_claim v at old n = cond (n == old) (record v { own = next_call v at old; first = false; named = false }) (loses v)

abbrev pub try_aside : View → ℕ → ℕ → View
try_aside v old n = cond (n == old) (record v { saved = true }) (loses v)

-- no name that is gone has an open call in what the seat has seen
abbrev pub GoneHasNoCall : View → Type 0
GoneHasNoCall w = (k : ℕ) → is_gone w.sizes w.gone k ≡ true → open_call nat_eq w.seen k ≡ None

-- the seat has seen more, of which the last is this event
pub record Adds (v w : View) (x : KeyedEvent) : Type 0 where
  pub before : List KeyedEvent
  pub seen : w.seen ≡ (v.seen ++ before) ++ x ∷ []
  pub legal : IsLegal nat_eq w.seen
  pub gone : GoneHasNoCall w

-- the seat has seen more, all of which is others'
pub record Grows (v w : View) : Type 0 where
  pub seen : IsPrefix v.seen w.seen
  pub legal : IsLegal nat_eq w.seen
  pub gone : GoneHasNoCall w

-- the call is led where the top word was the one expected
abbrev pub led_view : View → List KeyedEvent → View
led_view v h = record v { own = 0; first = false; named = false; leads = v.own; stored = false; walks = false; seen = h }

pub record tries_lead (v : View) (old n : ℕ) (w : View) : Type 0 where
  pub won : n ≡ old → (w ≡ led_view v w.seen) × Adds v w (event.Lead (v.own % 1048576) v.key (call_of v.own) None)
  pub lost : n ≢ old → w ≡ loses v

-- a member that no cell can be
pub record Entered (v w : View) : Type 0 where
  pub member : CallId
  pub adds : Adds v w (event.Enter member.caller v.name (call_of v.but) member)

abbrev pub joined_view : View → List KeyedEvent → View
joined_view v h = record v { ticket = v.but; done = false; seen = h }

pub record tries_join (v : View) (old n : ℕ) (w : View) : Type 0 where
  pub won : n ≡ old → (w ≡ joined_view v w.seen) × Entered v w
  pub lost : n ≢ old → w ≡ loses v

-- a Forget had closed the call, or it was a name's open call still
abbrev pub WasForgotten : List KeyedEvent → ℕ → Bool → Type 0
WasForgotten h e true = (k : ℕ) → open_call nat_eq h k ≢ Some (call_of e)
WasForgotten h e false = (k : ℕ) × (open_call nat_eq h k ≡ Some (call_of e))

-- the call is settled with this result, and with the number of all that have joined it, which is none where the bit is 0
pub record Settled (v w : View) (result : Option ℕ) (bit : ℕ) (forgotten : Bool) : Type 0 where
  pub joiners : ℕ
  pub none : bit ≡ 0 → joiners ≡ 0
  pub some : bit ≡ 1 → joiners ≢ 0
  pub adds : Adds v w (event.Settle (v.leads % 1048576) (call_of v.leads) result joiners)
  pub was : WasForgotten (v.seen ++ adds.before) v.leads forgotten

abbrev pub alone_view : View → List KeyedEvent → View
alone_view v h = record v { own = v.leads + 1048576; first = false; named = false; leads = 0; stored = false; seen = h }

pub record tries_alone (v : View) (old n : ℕ) (w : View) : Type 0 where
  pub won : n ≡ old → (w ≡ alone_view v w.seen) × Settled v w None 0 false
  pub lost : n ≢ old → w ≡ v

abbrev pub settled_view : View → List KeyedEvent → View
settled_view v h = record v { ticket = v.leads; done = true; leads = 0; stored = false; seen = h }

pub record settles (v : View) (n : ℕ) (w : View) : Type 0 where
  pub view : w ≡ record (settled_view v w.seen) { state = n }
  pub settled : Settled v w (Some v.value) (joined_bit n) (is_forgotten n)

pub record tries_close (v : View) (old n : ℕ) (w : View) : Type 0 where
  pub won : n ≡ old → (w ≡ record v { seen = w.seen }) × Adds v w (event.Forget v.number v.name (Some (call_of v.but)))
  pub lost : n ≢ old → w ≡ loses v

-- a walk over a sealed slot, whose top word was this, is one for all time
abbrev pub with_walk : View → ℕ → List Gone
with_walk v n = cond (n / 2 % 2 == 1) (record { slot = v.slot; names = v.names } ∷ v.gone) v.gone

-- the walk's top word is the slot's still: none of the names that were not met has an open call
pub record finds_none (v : View) (n : ℕ) (w : View) : Type 0 where
  pub won : n ≡ v.found → (w ≡ record v { seen = w.seen; gone = with_walk v v.found }) × Grows v w × ((k : ℕ) → slot_of v.sizes k ≡ v.slot → Unmet v.names k → open_call nat_eq w.seen k ≡ None)
  pub lost : n ≢ v.found → w ≡ loses v

-- the slot is sealed where its top word was the walk's, at whose end none of the names that were not met has an open call
pub record tries_seal (v : View) (old new n : ℕ) (w : View) : Type 0 where
  pub won : n ≡ old → (w ≡ record v { seen = w.seen; gone = with_walk v new }) × Grows v w × ((k : ℕ) → slot_of v.sizes k ≡ v.slot → Unmet v.names k → open_call nat_eq w.seen k ≡ None)
  pub lost : n ≢ old → w ≡ loses v

-- the call that is looked at is its name's open call, or it is not open any more
pub record confirms (v : View) (n : ℕ) (w : View) : Type 0 where
  pub won : is_open_call n v.but ≡ true → (w ≡ record v { seen = w.seen }) × Grows v w × (open_call nat_eq w.seen v.name ≡ Some (call_of v.but))
  pub lost : is_open_call n v.but ≡ false → w ≡ loses v

abbrev pub look_settled : View → ℕ → View
look_settled v n = cond (n / 2097152 % 2 == 1) (record v { done = true }) (record v { state = n })

pub record takes (v : View) (n : ℕ) (w : View) : Type 0 where
  pub view : w ≡ record v { seen = w.seen }
  pub grows : Grows v w
  pub result : result_of w.seen (call_of v.ticket) ≡ Some (Some n)

-- the same by the seat that was the call's last holder
pub record takes_last (v : View) (n : ℕ) (w : View) : Type 0 where
  pub view : w ≡ record v { seen = w.seen }
  pub grows : Grows v w
  pub result : result_of w.seen (call_of v.last) ≡ Some (Some n)

-- the seat that was the last holder of a settled call has the cell; what the state was is known
abbrev pub lets_go : View → ℕ → View
lets_go v n = record v { ticket = 0; done = false; state = n; last = cond ((n % 1048576 == 1) && (n / 2097152 % 2 == 1)) v.ticket v.last }

abbrev pub given_back : View → ℕ → View
given_back v n = record v { last = 0 }
