-- the row of a caller: its words, its cell, its next generation and its stage, and what is true of each row
use Rattle.std.specs.Prelude.{◌≡◌, ℕ, ◌≤◌, true, None, Some, List, slice_index_or}
use Rattle.sf_words.specs.declared.call_word.CallState.TheVariants as word
use Rattle.sf_steps_laws.specs.declared.operation.Stage.{Stage}
use Rattle.sf_steps_laws.specs.declared.operation.Stage.TheVariants as stage
use Rattle.sf_steps_laws.specs.Stages.{field_of, top_in, place_in, is_asking, second_in, first_in, AreWithin}
use Rattle.sf_steps.specs.declared.caller_row.CallerRow.{CallerRow}
use Rattle.sf_words.specs.declared.limits.TheConstants.{LARGEST_GENERATION}

module _ {V : Type 0} where
  -- the row of a caller that has done nothing yet
  abbrev pub first_row : CallerRow V
  first_row = record { call = word.Free; next = None; cell = None; generation = 1; stage = stage.Free }

  -- the row of a caller; a number that is no caller's has the first one
  abbrev pub row_at : List (CallerRow V) → ℕ → CallerRow V
  row_at rows a = slice_index_or rows a first_row

  -- words and stage name callers that there are, the stage names a place that there is, and who asks, also as a
  -- second, has a generation left
  pub record IsLawful (callers places : ℕ) (row : CallerRow V) : Type 0 where
    pub place : (1 ≤ place_in row.stage) × (place_in row.stage ≤ places)
    pub unspent : is_asking row.stage ≡ true → row.generation ≤ LARGEST_GENERATION
    pub top : top_in row.call ≤ callers
    pub next : field_of row.next ≤ callers
    pub stage : AreWithin callers row.stage

  -- the second of a chan knows its first
  abbrev pub ArePaired : (ℕ → Stage V) → Type 0
  ArePaired f = (a b : ℕ) → second_in (f a) ≡ Some b → first_in (f b) ≡ Some a
