use Rattle.std.proofs.Common.{◌≡◌, ℕ, suc, ◌+◌, ◌/◌, ◌<◌, ◌≤◌, [], length, ap, sym, ◌∙◌, subst, arith}
use mathlib.Core.Logic.{dite}
use native.Mathlib.Decide.{ℕ_discrete}
use Rattle.sf_dir.specs.KeyRow.{key_word}
use Rattle.sf_dir.proofs.Rows.{in_row}
use Rattle.sf_dir.proofs.Walking.{grows_again, row_read, row_read_first, key_is}
use Rattle.sf_dir.proofs.Keys.{same_key, bytes_small}
use Rattle.sf_dir.proofs.key_row.has_key.Goals as goal

pub look-requires-clause-word : goal.look-requires-clause-word
look-requires-clause-word c = in_row c.args.words.now.key c.args.sizes c.args.row _ 0 _ _ (sym c.requires.limits.0) c.start_of_row-start.ensures c.requires.limits.1 c.requires.row (omega arith) (omega arith)

pub returns-then-look-key-clause-no : goal.returns-then-look-key-clause-no
returns-then-look-key-clause-no c e has row same =
    c.if-look-key.true (row_read_first c.args.words.now.key c.args.sizes c.args.seat.now.me.0 _ _ c.args.row _ c.look.ensures.looked (sym c.requires.limits.0) c.start_of_row-start.ensures e has row ∙ ap length same)

pub loop-index-init : goal.loop-index-init
loop-index-init c = record {
  own = c.look.ensures.own;
  grows = c.look.ensures.looked.grows;
  spare = c.look.ensures.looked.spare;
  lengths = λ e has row. sym c.if-look-key.false ∙ row_read_first c.args.words.now.key c.args.sizes c.args.seat.now.me.0 _ _ c.args.row _ c.look.ensures.looked (sym c.requires.limits.0) c.start_of_row-start.ensures e has row;
  same = λ e has row i lt. absurd (omega arith);
}

-- the word of this index is within the row
within : (index end len key_bytes : ℕ) → index < end → end ≡ (len + 7) / 8 → len ≤ key_bytes → suc index < (key_bytes + 7) / 8 + 1
within index end len key_bytes lt is le = omega arith

pub look-requires-in-loop-index-clause-word : goal.look-requires-in-loop-index-clause-word
look-requires-in-loop-index-clause-word c =
    in_row c.args.words.now.key c.args.sizes c.args.row _ (suc c.loop-index.index) _ _ (sym c.requires.limits.0) c.start_of_row-start.ensures c.requires.limits.1 c.requires.row (within c.loop-index.index _ _ _ c.loop-index-test.true c.word_count-index-end.ensures c.requires.key) (omega arith)

pub returns-then-look-word_at-clause-grows : goal.returns-then-look-word_at-clause-grows
returns-then-look-word_at-clause-grows c = (grows_again _ _ _ [] [] c.loop-index.invariant.grows c.look-in-loop-index.ensures.looked.grows, c.look-in-loop-index.ensures.looked.spare ∙ c.loop-index.invariant.spare)

pub returns-then-look-word_at-clause-no : goal.returns-then-look-word_at-clause-no
returns-then-look-word_at-clause-no c e has row same =
    c.if-look-word_at.true (row_read c.args.words.now.key c.args.sizes c.args.seat.now.me.0 c.loop-index.seat.me.0 _ _ _ c.args.row (suc c.loop-index.index) _ c.loop-index.invariant.grows c.look-in-loop-index.ensures.looked (sym c.requires.limits.0) c.start_of_row-start.ensures (omega arith) (within c.loop-index.index _ _ _ c.loop-index-test.true c.word_count-index-end.ensures c.requires.key) e has row
    ∙ (ap (λ q. key_word q c.loop-index.index) same ∙ sym c.word_at.ensures))

pub loop-index-preserved : goal.loop-index-preserved
loop-index-preserved c = record {
  own = c.look-in-loop-index.ensures.own ∙ c.loop-index.invariant.own;
  grows = grows_again _ _ _ [] [] c.loop-index.invariant.grows c.look-in-loop-index.ensures.looked.grows;
  spare = c.look-in-loop-index.ensures.looked.spare ∙ c.loop-index.invariant.spare;
  lengths = c.loop-index.invariant.lengths;
  same = λ e has row i lt. dite (ℕ_discrete i c.loop-index.index)
      (λ is. subst (λ k. key_word c.args.key.now k ≡ key_word e.key k) (sym is) (sym c.word_at.ensures ∙ (sym c.if-look-word_at.false ∙ row_read c.args.words.now.key c.args.sizes c.args.seat.now.me.0 c.loop-index.seat.me.0 _ _ _ c.args.row (suc c.loop-index.index) _ c.loop-index.invariant.grows c.look-in-loop-index.ensures.looked (sym c.requires.limits.0) c.start_of_row-start.ensures (omega arith) (within c.loop-index.index _ _ _ c.loop-index-test.true c.word_count-index-end.ensures c.requires.key) e has row)))
      (λ d. c.loop-index.invariant.same e has row i (before i c.loop-index.index lt d));
}
  where
    before : (i n : ℕ) → i < n + 1 → ¬ (i ≡ n) → i < n
    before i n lt d = grind arith

pub returns-clause-yes : goal.returns-clause-yes
returns-clause-yes c e has row =
    sym (same_key c.args.key.now e.key (bytes_small c.args.key.now c.type_inv.key) (key_is c.args.words.now.key c.args.seat.now.me.0 c.loop-index.seat.me.0 e c.requires.own.1 c.loop-index.invariant.grows has).1 (c.loop-index.invariant.lengths e has row) (λ i lt. let end = c.word_count-index-end.ensures in let out = c.loop-index-test.false in c.loop-index.invariant.same e has row i (omega arith)))
