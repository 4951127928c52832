-- the events that a witness names
use Rattle.std.specs.Prelude.{ℕ, ◌-◌, List, [], ◌∷◌, map}
use Rattle.sf_replay_timed.specs.declared.witness.Witness.{Witness}
use Rattle.sf_replay_timed.specs.declared.witness.Witness.TheVariants.{Wrong, Reversed, Crossed, Within, Unclosed, BothUnclosed, Missed, StillCurrent}

-- their numbers, counted from 1, in the order in which it names them
abbrev pub numbers_in : Witness → List ℕ
numbers_in (Wrong e c) = e ∷ []
numbers_in (Reversed a b) = a ∷ b ∷ []
numbers_in (Crossed a b c d) = a ∷ b ∷ c ∷ d ∷ []
numbers_in (Within f a b) = f ∷ a ∷ b ∷ []
numbers_in (Unclosed a b) = a ∷ b ∷ []
numbers_in (BothUnclosed a b) = a ∷ b ∷ []
numbers_in (Missed f a b) = f ∷ a ∷ b ∷ []
numbers_in (StillCurrent f a) = f ∷ a ∷ []

-- the places of events of these numbers, counted from 0
abbrev pub places_of : List ℕ → List ℕ
places_of numbers = map (λ n. n - 1) numbers
