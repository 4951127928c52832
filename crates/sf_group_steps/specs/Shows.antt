-- the rule of the table: some schedule shows its words and cells, and each seat knows a beginning of it
use Rattle.std.specs.Prelude.{◌≡◌, ℕ, ◌≤◌, List, [], ◌∷◌, ◌++◌, length, slice_index, Option, Some}
use mathlib.Core.Option.{some}
use lib.ListN.{get_elem?}
use Rattle.atomic_table.specs.Table.{State}
use Rattle.sf_steps_laws.specs.declared.letter.Letter.{Letter}
use Rattle.sf_steps_laws.specs.declared.turn.Turn.{Turn}
use Rattle.sf_steps_laws.specs.Schedules.{IsCaller, IsSchedule}
use Rattle.sf_group_rows.specs.declared.sizes.Sizes.{Sizes}
use Rattle.sf_group_rows.specs.Fitting.{FitOf}
use Rattle.sf_group_steps.specs.declared.view.Claim.{Claim}
use Rattle.sf_group_steps.specs.declared.view.View.{View}
use Rattle.sf_group_steps.specs.Words.{Word, index, IsWord, words_in, code_at, AreLawful}
use Rattle.sf_group_steps.specs.View.{Has, AreApart, all_of, setting_of, world_of, history_of}
use Rattle.sf_group_steps.specs.Cells.{MayHold, IsCell}
use Rattle.sf_steps_laws.specs.Named.{Spares}

module _ {V : Type 0} where
  -- a seat's claim: the turns that it knows begin the schedule, and no turn after them names one of its callers
  pub record IsClaim (z : Sizes) (s : List (Turn V)) (owner : ℕ → ℕ) (seat : ℕ) (c : Claim V) : Type 0 where
    pub rest : List (Turn V)
    pub splits : s ≡ c.turns ++ rest
    pub owns : (a : ℕ) → Has c.callers a → (owner a ≡ seat) × IsCaller (setting_of z) a
    pub others : (a : ℕ) → Has c.callers a → Spares rest a

  abbrev pub AreClaims : Sizes → List (Turn V) → (ℕ → ℕ) → ℕ → List (Claim V) → Type 0
  AreClaims z s owner seat [] = Unit {0}
  AreClaims z s owner seat (c ∷ cs) = IsClaim z s owner seat c × AreClaims z s owner seat cs

  -- what a seat knows: its own claim, and those of seats that it took in. The cells that it has out, one of its callers has for itself
  pub record IsView (z : Sizes) (s : List (Turn V)) (owner : ℕ → ℕ) (seat : ℕ) (v : View V) : Type 0 where
    pub sizes : (y : Sizes) → v.sizes ≡ Some y → y ≡ z
    pub apart : AreApart (all_of v)
    pub known : IsClaim z s owner seat v.known
    pub told : AreClaims z s owner seat v.told
    pub may : (k : ℕ) → Has v.cells k → MayHold v.known.callers (world_of z v.known.turns) k

  -- the schedule shows the table
  pub record Shows (fits : FitOf V) (z : Sizes) (s : List (Turn V)) (t : State (Option (Letter V)) (View V)) : Type 0 where
    pub size : length t.words ≡ words_in z
    pub schedule : IsSchedule (setting_of z) s
    pub words : (x : Word) → IsWord z x → slice_index t.words (index z x) ≡ code_at (world_of z s) x
    pub lawful : AreLawful z.callers (world_of z s)
    pub owner : ℕ → ℕ
    pub seats : (seat : ℕ) (v : View V) → get_elem? t.views seat ≡ some v → IsView z s owner seat v
    pub cells : (k : ℕ) → k ≤ z.callers → IsCell fits (history_of z s) (world_of z s) t.homes t.views k

  -- the rule holds of a table that some schedule shows
  abbrev pub Holds : FitOf V → Sizes → State (Option (Letter V)) (View V) → Type 0
  Holds fits z t = (s : List (Turn V)) × Shows fits z s t
