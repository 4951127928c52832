use Rattle.std.proofs.Common.{◌≡◌, ◌+◌, []}
use Rattle.sf_dir.specs.Plays.{Grows}
use Rattle.sf_dir.specs.Walk.{IsWritten}
use Rattle.sf_dir.proofs.key_row.write_key.Given as goal

abbrev pub invariant-loop-index : goal.invariant-loop-index
invariant-loop-index l = record {
  own : l.seat.table_id ≡ l.fn.seat.table_id;
  grows : Grows l.fn.seat.me.0 l.seat.me.0 [];
  written : IsWritten l.seat.me.0 l.row l.key (l.index + 1);
}
