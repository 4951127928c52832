-- how often a leader made an exchange to close its call, and how often that failed
use Rattle.std.specs.Prelude.{ℕ, ◌+◌, ◌==◌, ◌&&◌, not, if◌then◌else◌, List, [], ◌∷◌}
use Rattle.sf_words.specs.declared.call_word.CallState.{CallState}
use Rattle.sf_steps_laws.specs.declared.operation.Stage.{Stage}
use Rattle.sf_steps_laws.specs.declared.operation.Stage.TheVariants.{Settling}
use Rattle.sf_steps_laws.specs.declared.operation.SettleStep.TheVariants as settle
use Rattle.sf_steps_laws.specs.declared.turn.Turn.{Turn}
use Rattle.sf_steps_laws.specs.declared.turn.Turn.TheVariants as turn
use Rattle.sf_steps_laws.specs.World.{World, is_open_with}
use Rattle.sf_steps_laws.specs.Turns.{turned}

module _ {V : Type 0} where
  -- 1 where the next step of a caller at this stage, with this call word, is an exchange to close its call of the generation, and fails
  abbrev pub fails_at : ℕ → CallState → Stage V → ℕ
  fails_at g found (Settling k i own v (settle.Close seen)) = if (i == g) && not (is_open_with seen found) then 1 else 0
  fails_at g found _ = 0

  abbrev pub fails : World V → ℕ → ℕ → Turn V → ℕ
  fails w a g (turn.Start b o) = 0
  fails w a g (turn.Step b) = if b == a then fails_at g (w.calls a) (w.stages a) else 0
  fails w a g (turn.Leave b) = 0

  -- how many of the turns are failed exchanges of the caller to close its call of this generation
  abbrev pub failed_closes : World V → ℕ → ℕ → List (Turn V) → ℕ
  failed_closes w a g [] = 0
  failed_closes w a g (t ∷ ts) = fails w a g t + failed_closes (turned w t) a g ts

  -- 1 where the next step of a caller at this stage is an exchange to close its call of the generation
  abbrev pub closes_at : ℕ → Stage V → ℕ
  closes_at g (Settling k i own v (settle.Close seen)) = if i == g then 1 else 0
  closes_at g _ = 0

  abbrev pub closes_in : World V → ℕ → ℕ → Turn V → ℕ
  closes_in w a g (turn.Start b o) = 0
  closes_in w a g (turn.Step b) = if b == a then closes_at g (w.stages a) else 0
  closes_in w a g (turn.Leave b) = 0

  -- how many of the turns are exchanges of the caller to close its call of this generation
  abbrev pub closes : World V → ℕ → ℕ → List (Turn V) → ℕ
  closes w a g [] = 0
  closes w a g (t ∷ ts) = closes_in w a g t + closes (turned w t) a g ts
