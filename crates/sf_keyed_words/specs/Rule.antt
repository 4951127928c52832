-- The rule of the table: its words are those of a keyed group, and each seat's view is right of it.
use Rattle.std.specs.Prelude.{◌≡◌, ◌≢◌, ℕ, ◌+◌, ◌*◌, ◌/◌, ◌%◌, ◌<◌, ◌≤◌, ◌==◌, ◌&&◌, not, Bool, true, false, bit_xor, cond, length, slice_index, List, [], ◌++◌, Some, sum_by}
use Rattle.std.specs.List.{list_any}
use mathlib.Core.Option.{some}
use lib.ListN.{get_elem?}
use Rattle.atomic_table.specs.Table.{State}
use Rattle.sf_keyed_tells.specs.Tells.{KeyedEvent}
use Rattle.sf_history.specs.History.{IsNew, is_settled, joined, result_of}
use Rattle.sf_keyed_laws.specs.Words.{Layout, Words, IsAside, IsLedIfAny, Keeps}
use Rattle.sf_keyed_laws.specs.Steps.{HasNoOpen}
use Rattle.sf_keyed_laws.specs.Walks.{HasWalked, IsOther}
use Rattle.sf_keyed_tells.specs.Tells.{call_of, Tells}
use Rattle.sf_keyed_words.specs.declared.rule.KeyedSizes.{KeyedSizes}
use Rattle.sf_keyed_words.specs.declared.rule.Name.{Name}
use Rattle.sf_keyed_words.specs.declared.rule.Gone.{Gone}
use Rattle.sf_keyed_words.specs.declared.rule.View.{View}

-- where the words lie: tops, side words, and eight for each cell: its state, its name's lower and upper word, its value, and four of no use, so that a cell has a line of memory for itself
abbrev pub side_at : KeyedSizes → ℕ → ℕ
side_at z w = z.tops + w

-- the cell of a call is its number's lower 20 bits
abbrev pub state_at : KeyedSizes → ℕ → ℕ
state_at z e = z.tops + z.sides + 8 * (e % 1048576)

abbrev pub name_at : KeyedSizes → ℕ → ℕ
name_at z e = z.tops + z.sides + 8 * (e % 1048576) + 1

abbrev pub high_at : KeyedSizes → ℕ → ℕ
high_at z e = z.tops + z.sides + 8 * (e % 1048576) + 2

abbrev pub value_at : KeyedSizes → ℕ → ℕ
value_at z e = z.tops + z.sides + 8 * (e % 1048576) + 3

abbrev pub word_total : KeyedSizes → ℕ
word_total z = z.tops + z.sides + 8 * z.cells

-- 64 slots that follow one another share 16 side words
abbrev pub sides_from : ℕ → ℕ
sides_from p = p / 64 * 16

-- the hash of a name's two words, of which 64 bits count: each word with its seed added, and multiplied; the two halves of the product as one word; and that times 2 ^ 64 over the golden ratio
unfoldable pub hash_of : (low_seed high_seed low high : ℕ) → ℕ
hash_of low_seed high_seed low high =
    let product : ℕ = (low + low_seed) % 18446744073709551616 * ((high + high_seed) % 18446744073709551616) in
    bit_xor (product % 18446744073709551616) (product / 18446744073709551616) * 11400714819323198485

-- the slot of a name: the upper half of its hash, scaled down to the slots
abbrev pub slot_of : KeyedSizes → ℕ → ℕ
slot_of z k = hash_of z.low_seed z.high_seed (k % 18446744073709551616) (k / 18446744073709551616) % 18446744073709551616 / 4294967296 * z.tops / 4294967296

abbrev pub layout_of : KeyedSizes → Layout
layout_of z = record { slot_of = slot_of z; sides_of = sides_from; width = 16 }

-- a name of two words, as one number
abbrev pub both : ℕ → ℕ → ℕ
both low high = low + high * 18446744073709551616

abbrev pub number : Name → ℕ
number n = both n.low n.high

-- the cell of this call has the name
pub record NameIs (z : KeyedSizes) (ws : List ℕ) (e name : ℕ) : Type 0 where
  pub low : slice_index ws (name_at z e) ≡ name % 18446744073709551616
  pub high : slice_index ws (high_at z e) ≡ name / 18446744073709551616

-- A state word: the generation from bit 23 on, a tag of two bits, a bit that each join sets, and the number of holders in the lower 20 bits. The tag's lower bit says that the
-- call is settled, its upper one that no Forget has closed it: 2 is open, 0 forgotten, 3 settled, 1 settled after a Forget. With the tag 0 and no holder the cell is free
abbrev pub gen_of : ℕ → ℕ
gen_of n = n / 8388608

abbrev pub tag_of : ℕ → ℕ
tag_of n = n / 2097152 % 4

-- whether somebody has joined the call, also one who has left since
abbrev pub joined_bit : ℕ → ℕ
joined_bit n = n / 1048576 % 2

abbrev pub held_of : ℕ → ℕ
held_of n = n % 1048576

abbrev pub is_open_word : ℕ → ℕ → Bool
is_open_word n e = (n / 8388608 == e / 1048576) && (n / 2097152 % 4 == 2)

-- the call is some call, and open
abbrev pub is_open_call : ℕ → ℕ → Bool
is_open_call n e = cond (e == 0) false (is_open_word n e)

-- a Forget has closed the call, which is not settled
abbrev pub is_forgotten : ℕ → Bool
is_forgotten n = cond (n / 2097152 % 4 == 2) false true

-- the call is open, and its one holder has it alone
abbrev pub ready_word : ℕ → ℕ
ready_word e = e / 1048576 * 8388608 + 4194305

-- the words are those of this group: a top or side word has its call's number from bit 2 on; a top word's second bit says that its slot is sealed, and its first one that it is marked
pub record Shows (z : KeyedSizes) (s : Words) (h : List KeyedEvent) (ws : List ℕ) : Type 0 where
  pub size : length ws ≡ word_total z
  pub tops : (p : ℕ) → p < z.tops → slice_index ws p / 4 ≡ s.top p
  pub sides : (w : ℕ) → w < z.sides → slice_index ws (side_at z w) / 4 ≡ s.side w
  pub within : (e : ℕ) → s.led e ≡ true → e % 1048576 < z.cells
  pub live : (e : ℕ) → s.led e ≡ true → s.closed e ≡ false → (is_open_word (slice_index ws (state_at z e)) e ≡ true) × NameIs z ws e (s.key_of e)
  pub shut : (e : ℕ) → s.led e ≡ true → s.closed e ≡ true → is_open_word (slice_index ws (state_at z e)) e ≡ false
  pub only : (e : ℕ) → s.closed e ≡ true → s.led e ≡ true
  pub coming : (e : ℕ) → e % 1048576 < z.cells → gen_of (slice_index ws (state_at z e)) < e / 1048576 → s.led e ≡ false
  pub seals : (p : ℕ) → p < z.tops → s.sealed p ≡ true → slice_index ws p / 2 % 2 ≡ 1
  pub bits : (p : ℕ) → p < z.tops → slice_index ws p / 2 % 2 ≡ 1 → s.sealed p ≡ true
  pub marks : (p : ℕ) → p < z.tops → slice_index ws p % 2 ≡ 0 → s.marked p ≡ false
  pub values : (e : ℕ) → s.led e ≡ true → gen_of (slice_index ws (state_at z e)) ≡ e / 1048576 → tag_of (slice_index ws (state_at z e)) % 2 ≡ 1
      → result_of h (call_of e) ≡ Some (Some (slice_index ws (value_at z e)))

-- the seat may lead this call: its cell is the seat's, and open
pub record IsOwn (z : KeyedSizes) (s : Words) (ws : List ℕ) (holder : ℕ → ℕ) (seat e : ℕ) (named : Bool) (key : ℕ) : Type 0 where
  pub new : s.led e ≡ false
  pub holder_is : holder (e % 1048576) ≡ seat
  pub within : e % 1048576 < z.cells
  pub state : slice_index ws (state_at z e) ≡ ready_word e
  pub name : named ≡ true → NameIs z ws e key

-- the bit says whether the call was joined
abbrev pub SaysJoined : List KeyedEvent → ℕ → ℕ → Type 0
SaysJoined h e bit = (bit ≡ 0 → joined h (call_of e) ≡ 0) × (bit ≡ 1 → joined h (call_of e) ≢ 0)

-- the seat leads this call
pub record IsLeads (z : KeyedSizes) (s : Words) (h : List KeyedEvent) (ws : List ℕ) (holder : ℕ → ℕ) (seat e : ℕ) (stored : Bool) (value : ℕ) : Type 0 where
  pub led : s.led e ≡ true
  pub holder_is : holder (e % 1048576) ≡ seat
  pub within : e % 1048576 < z.cells
  pub generation : gen_of (slice_index ws (state_at z e)) ≡ e / 1048576
  pub runs : tag_of (slice_index ws (state_at z e)) % 2 ≡ 0
  pub unsettled : is_settled h (call_of e) ≡ false
  pub value_is : stored ≡ true → slice_index ws (value_at z e) ≡ value
  pub joins : SaysJoined h e (joined_bit (slice_index ws (state_at z e)))

-- the seat is a holder of this call, which it has seen settled or not
pub record IsTicket (z : KeyedSizes) (s : Words) (ws : List ℕ) (e : ℕ) (done : Bool) : Type 0 where
  pub led : s.led e ≡ true
  pub within : e % 1048576 < z.cells
  pub generation : gen_of (slice_index ws (state_at z e)) ≡ e / 1048576
  pub settled : done ≡ true → tag_of (slice_index ws (state_at z e)) % 2 ≡ 1

-- the seat was this settled call's last holder, and has its cell
pub record IsLast (z : KeyedSizes) (s : Words) (ws : List ℕ) (holder : ℕ → ℕ) (seat e : ℕ) : Type 0 where
  pub led : s.led e ≡ true
  pub holder_is : holder (e % 1048576) ≡ seat
  pub within : e % 1048576 < z.cells
  pub generation : gen_of (slice_index ws (state_at z e)) ≡ e / 1048576
  pub settled : tag_of (slice_index ws (state_at z e)) % 2 ≡ 1
  pub empty : held_of (slice_index ws (state_at z e)) ≡ 0

-- the name was not met
abbrev pub Unmet : List ℕ → ℕ → Type 0
Unmet names k = list_any (λ n. n == k) names ≡ false

-- The call is no open call of a name that was not met
abbrev pub IsForeign : Words → List ℕ → ℕ → Type 0
IsForeign s names d = (k : ℕ) → Unmet names k → IsOther s k d

-- how far the seat has walked, for each name of the slot that it has not met
abbrev pub IsWalk : KeyedSizes → Words → View → Type 0
IsWalk z s v = record {
  walked : (k : ℕ) → slot_of z k ≡ v.slot → Unmet v.names k → HasWalked (layout_of z) s k v.top v.but v.looked;
  other : v.other ≡ true → IsForeign s v.names v.top;
  saved : v.saved ≡ true → s.led v.top ≡ true → s.closed v.top ≡ false → IsAside (layout_of z) s v.slot 0 v.top;
}

-- the name is of a sealed slot over which a walk went that did not meet it
abbrev pub covers : KeyedSizes → ℕ → Gone → Bool
covers z k g = (slot_of z k == g.slot) && not (list_any (λ n. n == k) g.names)

-- the seat knows that the name has no open call in the table, and never has one again
abbrev pub is_gone : KeyedSizes → List Gone → ℕ → Bool
is_gone z gone k = list_any (covers z k) gone

-- it has none, at a sealed slot, where no call is led any more
pub record IsShut (z y : KeyedSizes) (s : Words) (k : ℕ) : Type 0 where
  pub sizes : y ≡ z
  pub sealed : s.sealed (slot_of z k) ≡ true
  pub none : HasNoOpen s k

-- what the seat knows of the call that it is looking at, and of the names that are gone
abbrev pub IsLook : KeyedSizes → Words → View → Type 0
IsLook z s v = record {
  top : IsLedIfAny s v.top;
  but : IsLedIfAny s v.but;
  clear : v.clear ≡ true → IsForeign s v.names v.but;
  dead : v.dead ≡ true → (k : ℕ) → IsOther s k v.but;
  half : v.half ≡ true → (k : ℕ) → k % 18446744073709551616 ≢ v.low → IsOther s k v.but;
  told : v.told ≡ true → (k : ℕ) → k ≢ v.name → IsOther s k v.but;
  gone : (k : ℕ) → is_gone v.sizes v.gone k ≡ true → IsShut z v.sizes s k;
}

abbrev pub IsPrefix : List KeyedEvent → List KeyedEvent → Type 0
IsPrefix old new = (more : List KeyedEvent) × (new ≡ old ++ more)

pub record IsView (z : KeyedSizes) (s : Words) (h : List KeyedEvent) (ws : List ℕ) (holder : ℕ → ℕ) (seat : ℕ) (v : View) : Type 0 where
  pub seen : IsPrefix v.seen h
  pub heard : IsPrefix v.heard h
  pub look : IsLook z s v
  pub walk : v.walks ≡ true → IsWalk z s v
  pub own : v.own ≢ 0 → IsOwn z s ws holder seat v.own v.named v.key
  pub begun : v.own ≢ 0 → v.first ≡ true → (slice_index ws (name_at z v.own) ≡ v.start) × (v.start < 18446744073709551616)
  pub leads : v.leads ≢ 0 → IsLeads z s h ws holder seat v.leads v.stored v.value
  pub ticket : v.ticket ≢ 0 → IsTicket z s ws v.ticket v.done
  pub last : v.last ≢ 0 → IsLast z s ws holder seat v.last

-- how many of the cell's holders a view stands for
abbrev pub held_at : ℕ → ℕ → ℕ
held_at i e = cond (e == 0) 0 (cond (e % 1048576 == i) 1 0)

abbrev pub stake : ℕ → View → ℕ
stake i v = held_at i v.own + held_at i v.leads + held_at i v.ticket

pub record KeyedTable (z : KeyedSizes) (t : State ℕ View) : Type 0 where
  pub words : Words
  pub history : List KeyedEvent
  pub holder : ℕ → ℕ
  pub keeps : Keeps (layout_of z) words
  pub tells : Tells words history
  pub members : (c g : ℕ) → 1048576 ≤ c → length history ≤ g → IsNew history (record { caller = c; generation = g })
  pub shows : Shows z words history t.words
  pub counts : (i : ℕ) → i < z.cells → held_of (slice_index t.words (z.tops + z.sides + 8 * i)) ≡ sum_by (stake i) t.views
  pub seats : (seat : ℕ) (v : View) → get_elem? t.views seat ≡ some v → IsView z words history t.words holder seat v

abbrev pub Holds : KeyedSizes → State ℕ View → Type 0
Holds z t = KeyedTable z t

abbrev pub first_view : KeyedSizes → View
first_view z = record { sizes = z; number = 0; gone = []; own = 0; first = false; start = 0; named = false; key = 0; leads = 0; stored = false; value = 0; ticket = 0; done = false; last = 0; walks = false; slot = 0; found = 0; top = 0; other = false; saved = false; but = 0; clear = false; dead = false; half = false; low = 0; told = false; name = 0; names = []; looked = 0; aside = 0; opened = 0; counted = false; state = 0; place = 0; lost = 0; seen = []; heard = [] }

-- a new seat that has seen what another has
abbrev pub note_of : View → View
note_of v = record (first_view v.sizes) { seen = v.seen }
