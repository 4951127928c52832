use Rattle.std.proofs.Common.{◌≡◌, ℕ, ◌<◌, []}
use Rattle.sf_dir.specs.KeyRow.{place_after}
use Rattle.sf_dir.specs.Rule.{IsTaken}
use Rattle.sf_dir.specs.Plays.{Grows}
use Rattle.sf_dir.specs.Walk.{HoldsSpare}
use Rattle.sf_dir.proofs.walk.find.Given as goal

abbrev pub invariant-loop-passed : goal.invariant-loop-passed
invariant-loop-passed l = record {
  own : l.seat.table_id ≡ l.fn.seat.table_id;
  grows : Grows l.fn.seat.me.0 l.seat.me.0 [];
  holds : HoldsSpare l.words.key l.seat.me.0 l.spare;
  before : (k : ℕ) → k < l.passed → IsTaken l.seat.me.0.seen (place_after l.words.key l.key k) l.key;
}
