-- what steps ask, and what they tell
use Rattle.std.specs.Prelude.{◌≡◌, ◌≢◌, ℕ, ◌<◌, ◌≤◌, List, [], ◌∷◌, ◌++◌, Option, Some}
use Rattle.atomic_table.specs.Table.{Me, Step}
use Rattle.sf_history.specs.declared.event.Event.{Event}
use Rattle.sf_steps_laws.specs.declared.letter.Letter.{Letter}
use Rattle.sf_steps_laws.specs.declared.turn.Turn.{Turn}
use Rattle.sf_steps_laws.specs.World.{World}
use Rattle.sf_steps_laws.specs.Turns.{run}
use Rattle.sf_steps_laws.specs.Schedules.{IsCaller, IsSchedule, IsScheduleFrom}
use Rattle.sf_group_rows.specs.declared.sizes.Sizes.{Sizes}
use Rattle.sf_group_rows.specs.Fitting.{FitOf}
use Rattle.sf_group_steps.specs.declared.view.Claim.{Claim}
use Rattle.sf_group_steps.specs.declared.view.View.{View}
use Rattle.sf_group_steps.specs.Words.{Word, code_at, AreLawful, Writes}
use Rattle.sf_group_steps.specs.View.{Has, AreApart, setting_of, AreBy, claim, all_of, world_of, history_of}
use Rattle.sf_group_steps.specs.Cells.{Handle, none_of, take_one, give_one, cells_after, MayHold, FitsCell}
use Rattle.sf_steps_laws.specs.Named.{Spares}

module _ {V : Type 0} where
  -- the schedule goes on from the claim's turns, and no turn of its callers is in that
  pub record IsLater (c : Claim V) (s : List (Turn V)) : Type 0 where
    pub between : List (Turn V)
    pub turns : s ≡ c.turns ++ between
    pub others : (a : ℕ) → Has c.callers a → Spares between a

  abbrev pub AreLater : List (Claim V) → List (Turn V) → Type 0
  AreLater [] s = Unit {0}
  AreLater (c ∷ cs) s = IsLater c s × AreLater cs s

  -- a schedule to which others came from what the seat knows
  pub record Comes (z : Sizes) (v : View V) (s : List (Turn V)) : Type 0 where
    pub schedule : IsSchedule (setting_of z) s
    pub lawful : AreLawful z.callers (world_of z s)
    pub apart : AreApart (all_of v)
    pub numbered : (a : ℕ) → Has (all_of v) a → IsCaller (setting_of z) a
    pub later : IsLater v.known s
    pub heard : AreLater v.told s

  -- whatever the others do first, these turns make f n of the word x, which is n, and change no other word and no cell
  abbrev pub Moves : Sizes → View V → Word → (ℕ → ℕ) → (ℕ → List (Turn V)) → Type 0
  Moves z v x f turns = (v.cells ≡ []) × ((s : List (Turn V)) → Comes z v s → (n : ℕ) → n ≡ code_at (world_of z s) x → n < 18446744073709551616
      → AreBy (all_of v) (turns n) × IsScheduleFrom (setting_of z) (history_of z s) (world_of z s) (turns n) × Writes z.callers (world_of z s) (run (world_of z s) (turns n)) x (f n)
      × ((run (world_of z s) (turns n)).cells ≡ (world_of z s).cells))

  -- what these turns of the seat, which carries these cells, do with a cell, from the world w to u, in which the list h happened
  abbrev pub Handles : FitOf V → Sizes → View V → List (ℕ × Option (Letter V)) → World V → World V → List (Event ℕ V) → Handle → Type 0
  Handles fits z v c w u h none_of = (v.cells ≡ []) × (u.cells ≡ w.cells)
  Handles fits z v c w u h (take_one k) = (v.cells ≡ []) × (k ≤ z.callers) × MayHold (all_of v) u k × ((j : ℕ) → j ≢ k → u.cells j ≡ w.cells j)
  Handles fits z v c w u h (give_one k) = (v.cells ≡ k ∷ []) × (c ≡ (k, u.cells k) ∷ []) × FitsCell fits h (u.cells k) × ((j : ℕ) → j ≢ k → u.cells j ≡ w.cells j)

  -- the same as Moves, where the turns may take a cell out or bring it back
  abbrev pub MovesCell : FitOf V → Sizes → Me (Option (Letter V)) (View V) → Word → (ℕ → ℕ) → (ℕ → List (Turn V)) → (ℕ → Handle) → Type 0
  MovesCell fits z me x f turns handle = (s : List (Turn V)) → Comes z me.0 s → (n : ℕ) → n ≡ code_at (world_of z s) x → n < 18446744073709551616
      → AreBy (all_of me.0) (turns n) × IsScheduleFrom (setting_of z) (history_of z s) (world_of z s) (turns n) × Writes z.callers (world_of z s) (run (world_of z s) (turns n)) x (f n)
      × Handles fits z me.0 me.1 (world_of z s) (run (world_of z s) (turns n)) (history_of z (s ++ turns n)) (handle n)

  -- what the seat knows after these turns, with which it has these cells out
  abbrev pub view_with : View V → List (Turn V) → List ℕ → View V
  view_with v s cells = record { sizes = v.sizes; known = claim (all_of v) s; told = []; cells = cells }

  abbrev pub view_after : View V → List (Turn V) → View V
  view_after v s = view_with v s []

  -- the seat made these turns, after others, and has these cells out
  pub record MadeWith (z : Sizes) (v w : View V) (ts : List (Turn V)) (cells : List ℕ) : Type 0 where
    pub before : List (Turn V)
    pub comes : Comes z v before
    pub whole : IsSchedule (setting_of z) (before ++ ts)
    pub view : w ≡ view_with v (before ++ ts) cells

  -- the seat made these turns, after others
  abbrev pub Made : Sizes → View V → View V → List (Turn V) → Type 0
  Made z v w ts = MadeWith z v w ts []

  -- what the seat carries then, which carried c, by the world and the history before its turns: a cell that it takes out is as the world had it
  abbrev pub Carries : FitOf V → List (ℕ × Option (Letter V)) → World V → List (Event ℕ V) → Handle → List (ℕ × Option (Letter V)) → Type 0
  Carries fits c w h none_of d = d ≡ c
  Carries fits c w h (take_one k) d = (d ≡ (k, w.cells k) ∷ c) × FitsCell fits h (w.cells k)
  Carries fits c w h (give_one k) d = d ≡ []

  abbrev pub Found : Word → (ℕ → List (Turn V)) → Sizes → View V → ℕ → View V → Type 0
  Found x turns z v n w = (m : Made z v w (turns n)) × (n ≡ code_at (world_of z m.before) x)

  -- what a load or an exchange tells that finds n
  abbrev pub ToldFound : {S : Type 0} → Word → (ℕ → List (Turn V)) → Me S (View V) → ℕ → Me S (View V) → Type 0
  ToldFound x turns v n w = ((z : Sizes) → v.0.sizes ≡ Some z → Found x turns z v.0 n w.0) × (w.1 ≡ v.1)

  -- what a store tells
  abbrev pub ToldStored : {S : Type 0} → List (Turn V) → Me S (View V) → Me S (View V) → Type 0
  ToldStored ts v w = ((z : Sizes) → v.0.sizes ≡ Some z → Made z v.0 w.0 ts) × (w.1 ≡ v.1)

  -- the same, where the step may have taken a cell out or brought it back
  pub record Handled (fits : FitOf V) (x : Word) (turns : ℕ → List (Turn V)) (handle : ℕ → Handle) (z : Sizes) (v : Me (Option (Letter V)) (View V)) (n : ℕ) (w : Me (Option (Letter V)) (View V)) : Type 0 where
    pub made : MadeWith z v.0 w.0 (turns n) (cells_after (handle n))
    pub found : n ≡ code_at (world_of z made.before) x
    pub carries : Carries fits v.1 (world_of z made.before) (history_of z made.before) (handle n) w.1

  abbrev pub ToldHandled : FitOf V → Word → (ℕ → List (Turn V)) → (ℕ → Handle) → Me (Option (Letter V)) (View V) → ℕ → Me (Option (Letter V)) (View V) → Type 0
  ToldHandled fits x turns handle v n w = (z : Sizes) → v.0.sizes ≡ Some z → Handled fits x turns handle z v n w

  abbrev pub ToldHandledStore : FitOf V → List (Turn V) → Handle → Me (Option (Letter V)) (View V) → Me (Option (Letter V)) (View V) → Type 0
  ToldHandledStore fits ts handle v w = (z : Sizes) → v.0.sizes ≡ Some z
      → (m : MadeWith z v.0 w.0 ts (cells_after handle)) × Carries fits v.1 (world_of z m.before) (history_of z m.before) handle w.1

  abbrev pub finds : {S : Type 0} → Word → (ℕ → List (Turn V)) → Step S → Me S (View V) → ℕ → Me S (View V) → Type 0
  finds x turns st v n w = ToldFound x turns v n w

  abbrev pub stores : {S : Type 0} → (ℕ → List (Turn V)) → Step S → Me S (View V) → ℕ → Me S (View V) → Type 0
  stores turns st v n w = ToldStored (turns n) v w

  abbrev pub handles : FitOf V → Word → (ℕ → List (Turn V)) → (ℕ → Handle) → Step (Option (Letter V)) → Me (Option (Letter V)) (View V) → ℕ → Me (Option (Letter V)) (View V) → Type 0
  handles fits x turns handle st v n w = ToldHandled fits x turns handle v n w

  abbrev pub handles_store : FitOf V → (ℕ → List (Turn V)) → (ℕ → Handle) → Step (Option (Letter V)) → Me (Option (Letter V)) (View V) → ℕ → Me (Option (Letter V)) (View V) → Type 0
  handles_store fits turns handle st v n w = ToldHandledStore fits (turns n) (handle n) v w
