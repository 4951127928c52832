-- whom turns name, and what turns that do not name a caller leave of its events
use Rattle.std.specs.Prelude.{◌≡◌, ℕ, ◌⊎◌, List, [], ◌∷◌, ◌++◌}
use Rattle.std.specs.List.{All}
use Rattle.sf_history.specs.History.{maker, own_events}
use Rattle.sf_steps_laws.specs.declared.operation.Op.TheVariants as op
use Rattle.sf_steps_laws.specs.declared.operation.Stage.TheVariants.{Seconding}
use Rattle.sf_steps_laws.specs.declared.turn.Turn.{Turn}
use Rattle.sf_steps_laws.specs.declared.turn.Turn.TheVariants as turn
use Rattle.sf_steps_laws.specs.Events.{events_of, world_after}
use Rattle.sf_steps_laws.specs.Schedules.{Setting, IsCaller, IsSchedule}
use Rattle.sf_steps_laws.specs.Left.{AreOthers}

module _ {V : Type 0} where
  -- a turn names the caller that makes it, and the second of the chan that it starts
  abbrev pub Names : Turn V → ℕ → Type 0
  Names (turn.Start a (op.Ask k)) b = a ≡ b
  Names (turn.Start a (op.Chan second k)) b = (a ≡ b) ⊎ (second ≡ b)
  Names (turn.Start a (op.Settle v)) b = a ≡ b
  Names (turn.Start a (op.Forget k)) b = a ≡ b
  Names (turn.Start a (op.ForgetCall k c)) b = a ≡ b
  Names (turn.Start a (op.Named k)) b = a ≡ b
  Names (turn.Start a op.Poll) b = a ≡ b
  Names (turn.Start a (op.Current k c)) b = a ≡ b
  Names (turn.Step a) b = a ≡ b
  Names (turn.Leave a) b = a ≡ b

  -- no turn names the caller: nothing of the world is asked
  abbrev pub Spares : List (Turn V) → ℕ → Type 0
  Spares [] b = Unit {0}
  Spares (t ∷ ts) b = (Names t b → ⊥) × Spares ts b

-- turns that name neither a caller nor the first of the chan that it serves do not concern it
abbrev pub SparedAreLeft : Type 0 → Type 0
SparedAreLeft V = (z : Setting) (s ts : List (Turn V)) → IsSchedule z (s ++ ts) → (b : ℕ) → Spares ts b
    → ((d : ℕ) → (world_after z.callers z.first s).stages b ≡ Seconding d → Spares ts d) → AreOthers (world_after z.callers z.first s) ts b

-- turns that do not concern a caller add no event of it
abbrev pub OthersAddNothing : Type 0 → Type 0
OthersAddNothing V = (z : Setting) (s ts : List (Turn V)) → IsSchedule z (s ++ ts) → (b : ℕ) → AreOthers (world_after z.callers z.first s) ts b
    → own_events b (events_of z.callers z.first (s ++ ts)) ≡ own_events b (events_of z.callers z.first s)

-- each event is made by a caller of the setting
abbrev pub MakersAreCallers : Type 0 → Type 0
MakersAreCallers V = (z : Setting) (s : List (Turn V)) → IsSchedule z s → All (λ e. IsCaller z (maker e)) (events_of z.callers z.first s)
