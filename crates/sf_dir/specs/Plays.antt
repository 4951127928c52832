-- What each step tells the desk that makes it.
use Rattle.std.specs.Prelude.{◌≡◌, ◌≢◌, ℕ, ◌+◌, ◌<◌, ◌≤◌, List, [], ◌∷◌, ◌++◌, take, Some, None, Contains, slice_index}
use Rattle.atomic_table.specs.Table.{Me, Step}
use Rattle.sf_dir.specs.declared.rule.DirectorySizes.{DirectorySizes}
use Rattle.sf_dir.specs.declared.rule.Entry.{Entry}
use Rattle.sf_dir.specs.declared.rule.Spare.{Spare}
use Rattle.sf_dir.specs.declared.rule.View.{View}
use Rattle.sf_dir.specs.Names.{Name}
use Rattle.sf_dir.specs.KeyRow.{row_word}
use Rattle.sf_dir.specs.Rule.{StandsFor, IsKey, name_of, own_names, IsPlaceWord, IsSound, AllHeard}
use Rattle.sf_dir.specs.WordIndex.{row_width, row_count, row_at}

-- the later view has seen more, of the seat's own names these
pub record Grows (v w : View) (added : List Name) : Type 0 where
  pub sizes : w.sizes ≡ v.sizes
  pub from : w.from ≡ v.from
  pub to : w.to ≡ v.to
  pub told : w.told ≡ []
  pub more : List Entry
  pub seen : w.seen ≡ v.seen ++ more
  pub own : (desk : ℕ) → StandsFor v desk → own_names desk more ≡ added
  pub heard : AllHeard w.seen v.told
  pub sound : (z : DirectorySizes) → v.sizes ≡ Some z → IsSound z w.seen

-- what a word says of the names seen
pub record IsWord (z : DirectorySizes) (h : List Entry) (word n : ℕ) : Type 0 where
  pub place : 1 ≤ word → word ≤ z.keys → IsPlaceWord h word n
  pub row : (e : Entry) → Contains h e → (i : ℕ) → i < row_width z → word ≡ row_at z e.row + i
      → n ≡ row_word e.key i

pub record Looked (z : DirectorySizes) (word : ℕ) (v : View) (n : ℕ) (w : View) : Type 0 where
  pub grows : Grows v w []
  pub spare : w.spare ≡ v.spare
  pub reads : IsWord z w.seen word n

abbrev pub looks : Step ℕ → Me ℕ View → ℕ → Me ℕ View → Type 0
looks st v n w = (z : DirectorySizes) → v.0.sizes ≡ Some z → Looked z st.word v.0 n w.0

pub record Drew (z : DirectorySizes) (v : View) (n : ℕ) (w : View) : Type 0 where
  pub grows : Grows v w []
  pub spare : w.spare ≡ Some (record { row = n; words = [] })
  pub within : n < row_count z

abbrev pub draws : Step ℕ → Me ℕ View → ℕ → Me ℕ View → Type 0
draws st v n w = (z : DirectorySizes) → v.0.sizes ≡ Some z → Drew z v.0 n w.0

pub record Wrote (z : DirectorySizes) (word : ℕ) (v : View) (n : ℕ) (w : View) : Type 0 where
  pub grows : Grows v w []
  pub spare : (s : Spare) (i : ℕ) → v.spare ≡ Some s → word ≡ row_at z s.row + i
      → w.spare ≡ Some (record { row = s.row; words = take i s.words ++ n ∷ [] })

abbrev pub writes : Step ℕ → Me ℕ View → ℕ → Me ℕ View → Type 0
writes st v n w = (z : DirectorySizes) → v.0.sizes ≡ Some z → Wrote z st.word v.0 n w.0

-- a new name with the desk's key, whose row the spare one was
pub record Publishes (z : DirectorySizes) (place : ℕ) (v w : View) : Type 0 where
  pub entry : Entry
  pub grows : Grows v w (name_of entry ∷ [])
  pub stands : Contains w.seen entry
  pub place_is : entry.place ≡ place
  pub by : entry.by ≡ v.from
  pub key : IsKey z entry.key
  pub row : (s : Spare) → v.spare ≡ Some s → (i : ℕ) → i < row_width z
      → slice_index s.words i ≡ row_word entry.key i

pub record Tried (z : DirectorySizes) (place : ℕ) (v : View) (n : ℕ) (w : View) : Type 0 where
  pub won : n ≡ 0 → (w.spare ≡ None) × Publishes z place v w
  pub lost : n ≢ 0 → Grows v w [] × (w.spare ≡ v.spare) × IsPlaceWord w.seen place n

abbrev pub publishes : Step ℕ → Me ℕ View → ℕ → Me ℕ View → Type 0
publishes st v n w = (z : DirectorySizes) → v.0.sizes ≡ Some z → Tried z st.word v.0 n w.0
