-- how many callers a group has, and whose they are, for those who make fills
use Rattle.std.proofs.Common.{◌≡◌, ℕ, List, All, length, map, sym, ap, ◌∙◌}
use Rattle.std.proofs.lemmas.List.{length-map}
use Rattle.std.proofs.lemmas.List.FromFn.{length-range_with_len}
use Rattle.std.specs.List.{range_with_len}
use Rattle.sf_group_rows.specs.Making.{IsNewCaller}
use Rattle.sf_group_rows.specs.Tokens.{GroupValue, CallerValue}
use Rattle.sf_fill_values.specs.FillValue.{Filled}
use Rattle.sf_fill.specs.Made.{AreOfGroup}

pub as_many : {X : Type 0} (f : X → ℕ) (xs : List X) (n : ℕ) → map f xs ≡ range_with_len 1 n → length xs ≡ n
as_many f xs n numbers = sym (length-map xs f) ∙ ap length numbers ∙ length-range_with_len 1 n

pub callers_of_group : (g : GroupValue) (callers : List (CallerValue Filled)) → All (IsNewCaller g) callers → AreOfGroup g callers
callers_of_group g callers all = λ k d within. (all k d within).0
