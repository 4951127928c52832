use Rattle.std.proofs.Common.{◌≡◌, ◌+◌, []}
use Rattle.std.specs.List.{All, range_with_len}
use Rattle.sf_group_steps.specs.Words.{words_in}
use Rattle.sf_group.specs.Dealing.{IsDealing}
use Rattle.sf_group_rows.specs.Making.{IsNewCaller, numbers_of}
use Rattle.sf_group.proofs.group.Group.new.Given as goal

abbrev pub invariant-loop-index : goal.invariant-loop-index
invariant-loop-index g l = record {
  own : l.first.table_id ≡ l.table.shared.table_id;
  key : l.table.shared.key ≡ l.sizes;
  words : l.table.shared.table_id.words ≡ words_in l.sizes;
  slots : l.table.shared.table_id.slots ≡ l.sizes.callers + 1;
  dealing : IsDealing (l.index + 1) l.sizes l.first.me.0;
  empty : l.first.me.1 ≡ [];
  new : All (IsNewCaller (record { table = l.table.shared.table_id; sizes = l.sizes })) l.list.items;
  numbers : numbers_of l.list.items ≡ range_with_len 1 l.index;
}
