-- the lines of schedules: which turns a line says
use Rattle.std.specs.Prelude.{◌≡◌, ◌⊎◌, ℕ, List, [], ◌∷◌, Option, Some, None, Ok, Err, replicate, codes}
use Rattle.sf_text.specs.Words.{IsNumber, IsToken, IsCallWord}
use Rattle.sf_steps_laws.specs.declared.operation.Op.{Op}
use Rattle.sf_steps_laws.specs.declared.operation.Op.TheVariants as op
use Rattle.sf_steps_laws.specs.declared.turn.Turn.{Turn}
use Rattle.sf_steps_laws.specs.declared.turn.Turn.TheVariants as turn
use Rattle.sf_steps_text.specs.declared.schedule_line.ScheduleLine.{ScheduleLine}
use Rattle.sf_steps_text.specs.declared.schedule_line.ScheduleLine.TheVariants.{Do, Steps, Drop}
use Rattle.sf_steps_text.specs.TraceText.{Outcome}

-- callers and places are numbered from 1 to 64
abbrev pub IsSmall : List ℕ → ℕ → Type 0
IsSmall w a = IsNumber 64 w a

-- the words after `do` and the caller say this operation
abbrev pub SpellsOp : List (List ℕ) → Op Outcome → Type 0
SpellsOp ws (op.Ask k) = (x : List ℕ) × IsSmall x k × (ws ≡ codes "ask" ∷ x ∷ [])
SpellsOp ws (op.Chan b k) = (x y : List ℕ) × IsSmall x b × IsSmall y k × (ws ≡ codes "chan" ∷ x ∷ y ∷ [])
SpellsOp ws (op.Settle (Ok v)) = IsToken v × (ws ≡ codes "settle" ∷ codes "ok" ∷ v ∷ [])
SpellsOp ws (op.Settle (Err v)) = IsToken v × (ws ≡ codes "settle" ∷ codes "err" ∷ v ∷ [])
SpellsOp ws (op.Forget k) = (x : List ℕ) × IsSmall x k × (ws ≡ codes "forget" ∷ x ∷ [])
SpellsOp ws (op.ForgetCall k c) = (x y : List ℕ) × IsSmall x k × IsCallWord y c × (ws ≡ codes "forgetcall" ∷ x ∷ y ∷ [])
SpellsOp ws (op.Named k) = (x : List ℕ) × IsSmall x k × (ws ≡ codes "named" ∷ x ∷ [])
SpellsOp ws op.Poll = ws ≡ codes "poll" ∷ []
SpellsOp ws (op.Current k c) = (x y : List ℕ) × IsSmall x k × IsCallWord y c × (ws ≡ codes "current" ∷ x ∷ y ∷ [])

-- the words are this line
abbrev pub Spells : List (List ℕ) → ScheduleLine → Type 0
Spells ws (Do a o) = (x : List ℕ) × (rest : List (List ℕ)) × IsSmall x a × SpellsOp rest o × (ws ≡ codes "do" ∷ x ∷ rest)
Spells ws (Steps a n) = (x : List ℕ) × IsSmall x a × (((n ≡ 1) × (ws ≡ codes "step" ∷ x ∷ [])) ⊎ ((y : List ℕ) × IsNumber 1000 y n × (ws ≡ codes "step" ∷ x ∷ y ∷ [])))
Spells ws (Drop a) = (x : List ℕ) × IsSmall x a × (ws ≡ codes "drop" ∷ x ∷ [])

-- the words are this line, or no line of a schedule
unfoldable pub IsLine : List (List ℕ) → Option ScheduleLine → Type 0
IsLine ws None = (l : ScheduleLine) → Spells ws l → ⊥
IsLine ws (Some l) = Spells ws l

unfoldable pub IsOp : List (List ℕ) → Option (Op Outcome) → Type 0
IsOp ws None = (o : Op Outcome) → SpellsOp ws o → ⊥
IsOp ws (Some o) = SpellsOp ws o

-- the turns that a line says
abbrev pub turns_of : ScheduleLine → List (Turn Outcome)
turns_of (Do a o) = turn.Start a o ∷ []
turns_of (Steps a n) = replicate n (turn.Step a)
turns_of (Drop a) = turn.Leave a ∷ []
