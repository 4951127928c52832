-- when two texts are the same
use Rattle.std.specs.Prelude.{ℕ, Bool, List, nat_eq}
use lib.Pointwise.{pointwise}

abbrev pub same_text : List ℕ → List ℕ → Bool
same_text = pointwise nat_eq
