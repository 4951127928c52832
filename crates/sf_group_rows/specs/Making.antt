-- callers that are new
use Rattle.std.specs.Prelude.{◌≡◌, ℕ, List, [], map}
use Rattle.sf_group_rows.specs.Tokens.{GroupValue, CallerValue}

module _ {V : Type 0} where
  -- a caller of this group that has seen nothing yet
  abbrev pub new_caller : GroupValue → ℕ → CallerValue V
  new_caller g number = record { group = g; number = number; seen = []; turns = [] }

  -- it has seen nothing, and knows of no turn
  abbrev pub IsNewCaller : GroupValue → CallerValue V → Type 0
  IsNewCaller g c = (c.group ≡ g) × (c.seen ≡ []) × (c.turns ≡ [])

  abbrev pub numbers_of : List (CallerValue V) → List ℕ
  numbers_of callers = map (λ c. c.number) callers
