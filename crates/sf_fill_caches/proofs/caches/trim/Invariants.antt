use Rattle.std.specs.Prelude.{◌≡◌, ◌+◌, ◌≤◌, length}
use Rattle.sf_fill_caches.specs.Weights.{weight_of}
use Rattle.sf_fill_caches.specs.Trimming.{trimmed}
use Rattle.sf_fill_caches.proofs.caches.trim.Given as goal

abbrev pub invariant-over : goal.invariant-over
invariant-over g l = record {
  trimmed : trimmed l.limit (l.main.entries, l.hot.entries) ≡ trimmed l.limit (l.initial.main.entries, l.initial.hot.entries);
  weight : weight_of l.main.entries + weight_of l.hot.entries ≤ weight_of l.initial.main.entries + weight_of l.initial.hot.entries;
  caps : (l.main.cap ≡ l.initial.main.cap) × (l.hot.cap ≡ l.initial.hot.cap);
}

abbrev pub decreases-over : goal.decreases-over
decreases-over g l = length l.main.entries + length l.hot.entries
