use Rattle.std.proofs.Common.{◌≡◌, ℕ, ◌<◌, [], length}
use Rattle.std.specs.List.{Contains}
use Rattle.sf_dir.specs.declared.rule.Entry.{Entry}
use Rattle.sf_dir.specs.KeyRow.{key_word}
use Rattle.sf_dir.specs.Plays.{Grows}
use Rattle.sf_dir.proofs.key_row.has_key.Given as goal

abbrev pub invariant-loop-index : goal.invariant-loop-index
invariant-loop-index l = record {
  own : l.seat.table_id ≡ l.fn.seat.table_id;
  grows : Grows l.fn.seat.me.0 l.seat.me.0 [];
  spare : l.seat.me.0.spare ≡ l.fn.seat.me.0.spare;
  lengths : (e : Entry) → Contains l.fn.seat.me.0.seen e → e.row ≡ l.row → length l.key ≡ length e.key;
  same : (e : Entry) → Contains l.fn.seat.me.0.seen e → e.row ≡ l.row → (i : ℕ) → i < l.index → key_word l.key i ≡ key_word e.key i;
}
