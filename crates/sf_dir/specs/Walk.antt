-- What one desk's walk asks and tells.
use Rattle.std.specs.Prelude.{◌≡◌, ◌≢◌, ℕ, ◌+◌, ◌<◌, ◌≤◌, ◌⊎◌, List, [], ◌∷◌, length, slice_index, Option, Some, None, Contains}
use Rattle.atomic_table.specs.Seated.{TableId}
use Rattle.atomic_table.specs.declared.shared.Shared.{Shared}
use Rattle.atomic_table.specs.declared.shared.Seat.{Seat}
use Rattle.sf_dir.specs.declared.rule.Law.{Law}
use Rattle.sf_dir.specs.declared.rule.DirectorySizes.{DirectorySizes}
use Rattle.sf_dir.specs.declared.rule.Entry.{Entry}
use Rattle.sf_dir.specs.declared.rule.Spare.{Spare}
use Rattle.sf_dir.specs.declared.rule.View.{View}
use Rattle.sf_dir.specs.KeyRow.{row_word, place_after}
use Rattle.sf_dir.specs.Rule.{IsSound, IsTaken, IsKey, name_of}
use Rattle.sf_dir.specs.WordIndex.{IsWithinLimits, row_at, row_width, row_count, word_total}
use Rattle.sf_dir.specs.Plays.{Grows}

-- the seat is of this table, and knows its sizes
abbrev pub IsOwnSeat : Shared ℕ View DirectorySizes Law → Seat ℕ View → Type 0
IsOwnSeat words seat = (seat.table_id ≡ words.table_id) × (seat.me.0.sizes ≡ Some words.key)

-- the table has the words that these sizes ask for
abbrev pub IsLaidOut : DirectorySizes → TableId → DirectorySizes → Type 0
IsLaidOut z table sizes = (z ≡ sizes) × (table.words ≡ word_total z) × IsWithinLimits z

-- the seat stands for one desk, between two steps of it
abbrev pub IsOneDesk : DirectorySizes → View → Type 0
IsOneDesk z v = (v.to ≡ v.from + 1) × (v.told ≡ []) × IsSound z v.seen

abbrev pub spare_row : Option Spare → Option ℕ
spare_row None = None
spare_row (Some s) = Some s.row

-- the desk holds the number of its spare row, if it has one
pub record HoldsSpare (z : DirectorySizes) (v : View) (row : Option ℕ) : Type 0 where
  pub row_is : spare_row v.spare ≡ row
  pub within : (s : Spare) → v.spare ≡ Some s → s.row < row_count z

-- the first n words of the seat's spare row are the key's
pub record IsWritten (v : View) (row : ℕ) (key : List ℕ) (n : ℕ) : Type 0 where
  pub spare : Spare
  pub has : v.spare ≡ Some spare
  pub row_is : spare.row ≡ row
  pub written : length spare.words ≡ n
  pub words : (i : ℕ) → i < n → slice_index spare.words i ≡ row_word key i

-- the place is on the key's walk, and the desk has seen another key at each place before it
pub record IsReached (z : DirectorySizes) (v : View) (place : ℕ) (key : List ℕ) : Type 0 where
  pub passed : ℕ
  pub within : passed < z.keys
  pub place_is : place ≡ place_after z key passed
  pub before : (k : ℕ) → k < passed → IsTaken v.seen (place_after z key k) key

-- the words that may be written: the spare row's, up to the first that is not written yet
abbrev pub MayWrite : DirectorySizes → View → ℕ → Type 0
MayWrite z v word = (s : Spare) × (i : ℕ) × (v.spare ≡ Some s)
    × (word ≡ row_at z s.row + i) × (i < row_width z) × (i ≤ length s.words)

-- the name that stands in the row, if there is one, is of this key; or it is of another
abbrev pub IsRowOf : List Entry → ℕ → List ℕ → Type 0
IsRowOf h row key = (e : Entry) → Contains h e → e.row ≡ row → e.key ≡ key

abbrev pub IsRowOfAnother : List Entry → ℕ → List ℕ → Type 0
IsRowOfAnother h row key = (e : Entry) → Contains h e → e.row ≡ row → e.key ≢ key

-- the desk may publish its row as the key's at this place
pub record MayPublish (z : DirectorySizes) (v : View) (place row : ℕ) (key : List ℕ) : Type 0 where
  pub written : IsWritten v row key (row_width z)
  pub reached : IsReached z v place key
  pub is_key : IsKey z key

-- the place is the key's: some desk has put the key there, perhaps this one just now
pub record Resolves (v w : View) (place : ℕ) (key : List ℕ) : Type 0 where
  pub entry : Entry
  pub stands : Contains w.seen entry
  pub place_is : entry.place ≡ place
  pub key_is : entry.key ≡ key
  pub grows : Grows v w [] ⊎ ((entry.by ≡ v.from) × Grows v w (name_of entry ∷ []))

-- the place is another key's
pub record Passes (v w : View) (place : ℕ) (key : List ℕ) : Type 0 where
  pub grows : Grows v w []
  pub taken : IsTaken w.seen place key
