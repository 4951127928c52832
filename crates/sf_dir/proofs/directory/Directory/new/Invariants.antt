use Rattle.std.proofs.Common.{◌≡◌, ◌+◌, [], Some, None}
use Rattle.std.specs.List.{All, range_with_len}
use Rattle.sf_dir.specs.WordIndex.{word_total}
use Rattle.sf_dir.specs.Known.{directory_of, IsNewDesk, numbers_of}
use Rattle.sf_dir.proofs.directory.Directory.new.Given as goal

abbrev pub invariant-loop-index : goal.invariant-loop-index
invariant-loop-index l = record {
  own : l.first.table_id ≡ l.table.shared.table_id;
  key : l.table.shared.key ≡ l.sizes;
  total : l.table.shared.table_id.words ≡ word_total l.sizes;
  sizes : l.first.me.0.sizes ≡ Some l.sizes;
  from : l.first.me.0.from ≡ l.index + 1;
  to : l.first.me.0.to ≡ l.desks + 1;
  free : l.first.me.0.spare ≡ None;
  nothing : l.first.me.0.seen ≡ [];
  desks_of : All (IsNewDesk (directory_of l.table.shared.table_id l.sizes)) l.list.items;
  numbers : numbers_of l.list.items ≡ range_with_len 1 l.index;
}
