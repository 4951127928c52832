-- the world that a `World` holds
use Rattle.std.specs.Prelude.{◌≡◌, ℕ, List, slice_index_or}
use Rattle.sf_words.specs.declared.key_word.KeyState.{KeyState}
use Rattle.sf_words.specs.declared.key_word.KeyState.TheVariants.{Never}
use Rattle.sf_steps.specs.declared.world.World.{World as Running}
use Rattle.sf_steps_laws.specs.World.{World}
use Rattle.sf_steps_laws.specs.Schedules.{Setting}
use Rattle.sf_steps.specs.declared.caller_row.CallerRow.{CallerRow}
use Rattle.sf_steps.specs.Rows.{row_at}

-- so many callers, and words, cells, generations and stages, each at the number of its place or caller
abbrev pub of_rows : {V : Type 0} → ℕ → (ℕ → KeyState) → List (CallerRow V) → World V
of_rows callers keys rows = record {
  callers = callers;
  keys = keys;
  calls = λ a. (row_at rows a).call;
  nexts = λ a. (row_at rows a).next;
  cells = λ a. (row_at rows a).cell;
  generations = λ a. (row_at rows a).generation;
  stages = λ a. (row_at rows a).stage;
}

abbrev pub world_of : {V : Type 0} → Running V → World V
world_of w = of_rows w.callers (λ k. slice_index_or w.keys.items k Never) w.rows.items

-- where it is played: its callers and places, and generation 1 as each caller's first
abbrev pub setting_of : {V : Type 0} → Running V → Setting
setting_of w = record { callers = w.callers; places = w.places; first = 1 }

-- it has as many callers and places
abbrev pub SameSizes : {V : Type 0} → Running V → Running V → Type 0
SameSizes old new = (new.callers ≡ old.callers) × (new.places ≡ old.places)
