use Rattle.std.proofs.Common.{◌≡◌, ℕ, ◌+◌, ◌-◌, ◌<◌, [], ap, refl, sym, ◌∙◌, add-one, arith}
use Rattle.sf_dir.specs.KeyRow.{row_word}
use Rattle.sf_dir.specs.WordIndex.{row_width}
use Rattle.sf_dir.proofs.Rows.{in_row}
use Rattle.sf_dir.proofs.Walking.{grows_again, the_spare, written_first, written_more, may_write, may_write_first}
use Rattle.sf_dir.proofs.key_row.write_key.Goals as goal

pub write-requires-clause-word : goal.write-requires-clause-word
write-requires-clause-word c = in_row c.args.words.now.key c.args.sizes c.args.row _ 0 _ _ (sym c.requires.limits.0) c.start_of_row-start.ensures c.requires.limits.1 (the_spare _ _ _ c.requires.spare).3 (omega arith) (omega arith)

pub write-requires-clause-spare : goal.write-requires-clause-spare
write-requires-clause-spare c = may_write_first c.args.words.now.key c.args.sizes c.args.seat.now.me.0 _ c.args.row c.requires.spare (sym c.requires.limits.0) c.start_of_row-start.ensures

pub loop-index-init : goal.loop-index-init
loop-index-init c = record {
  own = c.write.ensures.own;
  grows = c.write.ensures.wrote.grows;
  written = written_first c.args.words.now.key c.args.sizes c.args.seat.now.me.0 _ _ c.args.row _ c.args.key.now c.requires.spare c.write.ensures.wrote (sym c.requires.limits.0) c.start_of_row-start.ensures refl;
}

-- the next word is within the row
within : (index end width : ℕ) → index < end - 1 → end ≡ width → index + 1 < width
within index end width lt is = omega arith

pub write-requires-in-loop-index-clause-word : goal.write-requires-in-loop-index-clause-word
write-requires-in-loop-index-clause-word c =
    in_row c.args.words.now.key c.args.sizes c.args.row _ (c.loop-index.index + 1) _ _ (sym c.requires.limits.0) c.start_of_row-start.ensures c.requires.limits.1 (the_spare _ _ _ c.requires.spare).3 (within c.loop-index.index _ _ c.loop-index-test.true (c.width_of-index-end.ensures ∙ ap row_width (sym c.requires.limits.0))) (omega arith)

pub write-requires-in-loop-index-clause-spare : goal.write-requires-in-loop-index-clause-spare
write-requires-in-loop-index-clause-spare c =
    may_write c.args.words.now.key c.args.sizes c.loop-index.seat.me.0 _ c.args.row _ (c.loop-index.index + 1) c.args.key.now c.loop-index.invariant.written (sym c.requires.limits.0) c.start_of_row-start.ensures (omega arith) (within c.loop-index.index _ _ c.loop-index-test.true (c.width_of-index-end.ensures ∙ ap row_width (sym c.requires.limits.0)))

pub loop-index-preserved : goal.loop-index-preserved
loop-index-preserved c = record {
  own = c.write-in-loop-index.ensures.own ∙ c.loop-index.invariant.own;
  grows = grows_again _ _ _ [] [] c.loop-index.invariant.grows c.write-in-loop-index.ensures.wrote.grows;
  written = written_more c.args.words.now.key c.args.sizes c.loop-index.seat.me.0 _ _ c.args.row _ (c.loop-index.index + 1) _ _ c.args.key.now c.loop-index.invariant.written c.write-in-loop-index.ensures.wrote (sym c.requires.limits.0) c.start_of_row-start.ensures (omega arith) (c.word_at.ensures ∙ sym (ap (row_word c.args.key.now) (add-one c.loop-index.index))) (omega arith);
}
