-- how jobs end that workers do
use Rattle.std.specs.Prelude.{◌≡◌, List, [], ◌∷◌}
use Rattle.sf_group_rows.specs.Fitting.{FitOf}
use Rattle.sf_group_rows.specs.Finishes.{IsDone, IsHeld}
use Rattle.sf_wait.specs.Jobs.{JobValue}
use Rattle.sf_wait.specs.declared.workers.Served.{Served}
use Rattle.sf_wait.specs.declared.workers.Served.TheVariants.{Done, Held, Left}

module _ {V W : Type 0} where
  -- the job's flight is settled with what its work answered, or the job comes back
  abbrev pub HasServed : FitOf V → (W → V → Type 0) → JobValue V W → Served V W → Type 0
  HasServed fits answers j (Done c l) = (v : V) × answers j.work v × IsDone fits j.flight v c l
  HasServed fits answers j (Held s) = (v : V) × answers j.work v × IsHeld j.flight v s
  HasServed fits answers j (Left k) = k ≡ j

-- the lists are as long, and what stands at one place in both is related so
abbrev pub ArePaired : {A B : Type 0} → (A → B → Type 0) → List A → List B → Type 0
ArePaired r [] [] = Unit {0}
ArePaired r [] (y ∷ ys) = ⊥
ArePaired r (x ∷ xs) [] = ⊥
ArePaired r (x ∷ xs) (y ∷ ys) = r x y × ArePaired r xs ys
