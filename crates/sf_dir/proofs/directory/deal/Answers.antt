use Rattle.std.proofs.Common.{arith}
use Rattle.sf_dir.proofs.Seating.{deals_split}
use Rattle.sf_dir.proofs.directory.deal.Goals as goal

pub split_seat-seat-requires : goal.split_seat-seat-requires
split_seat-seat-requires c =
    let from = c.requires.next.0 in
    let below = c.requires.next.1 in
    (c.requires.own.0, c.requires.words, deals_split c.args.words.now.key c.args.first.now.id c.args.first.now.me.0 (omega arith) c.requires.unused.0)
