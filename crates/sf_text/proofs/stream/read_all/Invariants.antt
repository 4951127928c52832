-- what was read and what is left is what there was
use Rattle.std.proofs.Common.{◌≡◌, List, ℕ, ◌++◌, Some}
use Rattle.std.specs.Prelude.{IfSome}
use Rattle.sf_text.proofs.stream.read_all.Given as goal

abbrev pub invariant-reads : goal.invariant-reads
invariant-reads g l = IfSome (g.R.Read.remaining l.fn.reader) (λ all. (rest : List ℕ) × (g.R.Read.remaining l.reader ≡ Some rest) × (all ≡ l.input.items ++ rest))
