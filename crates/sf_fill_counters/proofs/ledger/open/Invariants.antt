use Rattle.std.specs.Prelude.{◌≡◌, ◌*◌, ◌-◌, ◌^◌}
use Rattle.sf_fill_counters.proofs.ledger.open.Given as goal

abbrev pub invariant-loop-index : goal.invariant-loop-index
invariant-loop-index g l = (l.book.total ≡ l._index * (2 ^ 64 - 1)) × (l.all.amount ≡ l._index * (2 ^ 64 - 1)) × (l.all.parts ≡ l.getters)
