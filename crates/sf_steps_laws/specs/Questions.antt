-- a question that looks came to its look by its own peek
use Rattle.std.specs.Prelude.{◌≡◌, ℕ, true, false, List, [], ◌∷◌, ◌++◌, Some}
use Rattle.sf_history.specs.declared.call.CallId.{CallId}
use Rattle.sf_steps_laws.specs.declared.operation.Stage.TheVariants.{Questioning}
use Rattle.sf_steps_laws.specs.declared.operation.CurrentStep.TheVariants.{Peek, Look}
use Rattle.sf_steps_laws.specs.declared.turn.Turn.{Turn}
use Rattle.sf_steps_laws.specs.declared.turn.Turn.TheVariants as turn
use Rattle.sf_steps_laws.specs.World.{World}
use Rattle.sf_steps_laws.specs.Turns.{turned}
use Rattle.sf_steps_laws.specs.Events.{world_after, current_answer}
use Rattle.sf_steps_laws.specs.Schedules.{Setting, IsSchedule}
use Rattle.sf_steps_laws.specs.Laws.{is_current_after}

module _ {V : Type 0} where
  -- the caller's question stays at its look throughout these turns
  abbrev pub IsLooking : World V → List (Turn V) → ℕ → ℕ → CallId → Type 0
  IsLooking w [] a k c = w.stages a ≡ Questioning k c Look
  IsLooking w (t ∷ ts) a k c = (w.stages a ≡ Questioning k c Look) × IsLooking (turned w t) ts a k c

-- a question that is at its look came to it by its own peek, and has stayed there since
abbrev pub LooksHaveOwnPeeks : Type 0 → Type 0
LooksHaveOwnPeeks V = (z : Setting) (s : List (Turn V)) → IsSchedule z s → (a k : ℕ) (c : CallId) → (world_after z.callers z.first s).stages a ≡ Questioning k c Look
    → (p rest : List (Turn V)) × (s ≡ p ++ turn.Step a ∷ rest) × ((world_after z.callers z.first p).stages a ≡ Questioning k c Peek) × IsLooking (world_after z.callers z.first (p ++ turn.Step a ∷ [])) rest a k c

-- where the look says yes, the call was current at the peek; where it says no, the call is not current at the look
abbrev pub YesAtThePeekNoAtTheLook : Type 0 → Type 0
YesAtThePeekNoAtTheLook V = (z : Setting) (p rest : List (Turn V)) (a k : ℕ) (c : CallId) → IsSchedule z (p ++ turn.Step a ∷ rest)
    → (world_after z.callers z.first p).stages a ≡ Questioning k c Peek → (world_after z.callers z.first (p ++ turn.Step a ∷ [])).stages a ≡ Questioning k c Look
    → (current_answer (world_after z.callers z.first (p ++ turn.Step a ∷ rest)) k c Look ≡ Some true → is_current_after z.callers z.first p k c ≡ true)
    × (current_answer (world_after z.callers z.first (p ++ turn.Step a ∷ rest)) k c Look ≡ Some false → is_current_after z.callers z.first (p ++ turn.Step a ∷ rest) k c ≡ false)
