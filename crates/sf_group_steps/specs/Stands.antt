-- where a caller stands in its operation, as its seat knows, and how steps take it on
use Rattle.std.specs.Prelude.{◌≡◌, ℕ, ◌+◌, ◌≤◌, true, List, [], ◌∷◌, ◌++◌, Some, None, ◌⊎◌}
use Rattle.atomic_table.specs.Seated.{TableId}
use Rattle.sf_history.specs.declared.event.Event.{Event}
use Rattle.sf_steps_laws.specs.declared.operation.Op.TheVariants as op
use Rattle.sf_steps_laws.specs.declared.operation.Stage.{Stage}
use Rattle.sf_steps_laws.specs.declared.operation.Stage.TheVariants as stage
use Rattle.sf_steps_laws.specs.declared.operation.AskStep.TheVariants as ask
use Rattle.sf_steps_laws.specs.declared.turn.Turn.{Turn}
use Rattle.sf_steps_laws.specs.declared.turn.Turn.TheVariants as turn
use Rattle.sf_steps_laws.specs.Schedules.{IsCaller, IsSchedule}
use Rattle.sf_group_rows.specs.declared.sizes.Sizes.{Sizes}
use Rattle.sf_group_steps.specs.declared.view.View.{View}
use Rattle.sf_group_steps.specs.Words.{words_in}
use Rattle.sf_group_steps.specs.View.{setting_of, sizes_of, world_of, history_of}
use Rattle.sf_group_rows.specs.Seen.{Adds}
use Rattle.sf_words.specs.declared.limits.TheConstants.{LARGEST_GENERATION}

-- a seat at the table of words of a group of these sizes
abbrev pub IsSeatOf : TableId → TableId → Sizes → Type 0
IsSeatOf seat table z = (seat ≡ table) × (table.words ≡ words_in z) × (table.slots ≡ z.callers + 1)

module _ {V : Type 0} where
  -- the stage of a caller, as the seat knows
  abbrev pub stage_in : View V → ℕ → Stage V
  stage_in v a = (world_of (sizes_of v) v.known.turns).stages a

  -- the seat is that of one caller, which is at this stage, and has these cells out
  pub record SitsWith (z : Sizes) (a : ℕ) (v : View V) (p : Stage V) (out : List ℕ) : Type 0 where
    pub sizes : v.sizes ≡ Some z
    pub callers : v.known.callers ≡ a ∷ []
    pub told : v.told ≡ []
    pub caller : IsCaller (setting_of z) a
    pub schedule : IsSchedule (setting_of z) v.known.turns
    pub stage : (world_of z v.known.turns).stages a ≡ p
    pub cells : v.cells ≡ out

  -- the seat is that of one caller, which is at this stage
  abbrev pub Sits : Sizes → ℕ → View V → Stage V → Type 0
  Sits z a v p = SitsWith z a v p []

  -- its next generation
  abbrev pub next_in : Sizes → View V → ℕ → ℕ
  next_in z v a = (world_of z v.known.turns).generations a

  -- the caller went on to this stage, where its seat has these cells out. It added these events, and used so many generations
  pub record GoesWith (z : Sizes) (a : ℕ) (v w : View V) (p : Stage V) (x : List (Event ℕ V)) (given : ℕ) (out : List ℕ) : Type 0 where
    pub sits : SitsWith z a w p out
    pub turns : List (Turn V)
    pub knows : w.known.turns ≡ v.known.turns ++ turns
    pub used : next_in z w a ≡ next_in z v a + given
    pub adds : (t : TableId) → Adds (record { table = t; sizes = z }) a (history_of z v.known.turns) (history_of z w.known.turns) x given

  -- the caller went on to this stage. It added these events, and used so many generations
  abbrev pub Goes : Sizes → ℕ → View V → View V → Stage V → List (Event ℕ V) → ℕ → Type 0
  Goes z a v w p x given = GoesWith z a v w p x given []

  -- where an asking begins, or looks again after a failed exchange
  abbrev pub MayLook : Sizes → ℕ → ℕ → View V → Type 0
  MayLook z a k v = (Sits z a v stage.Free × (next_in z v a ≤ LARGEST_GENERATION)) ⊎ Sits z a v (stage.Asking k None (ask.Look true))

  -- its first look starts it
  abbrev pub look_turns : Stage V → ℕ → ℕ → List (Turn V)
  look_turns stage.Free a k = turn.Start a (op.Ask k) ∷ turn.Step a ∷ []
  look_turns _ a k = turn.Step a ∷ []
