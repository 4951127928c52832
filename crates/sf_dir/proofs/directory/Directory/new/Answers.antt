use Rattle.std.proofs.Common.{◌≡◌, ℕ, ◌+◌, List, [], ◌∷◌, ◌++◌, ap, sym, ◌∙◌, subst, replicate, arith}
use Rattle.std.specs.List.{All, range_with_len}
use Rattle.std.proofs.lemmas.List.{map-append, map-id}
use Rattle.std.proofs.lemmas.List.FromFn.{map-range_with_len_more}
use Rattle.std.proofs.lemmas.List.Elements.{All-push}
use Rattle.sf_dir.specs.declared.rule.View.{View}
use Rattle.sf_dir.specs.Known.{DeskState, IsNewDesk, numbers_of, directory_of}
use Rattle.sf_dir.proofs.Seating.{opens}
use Rattle.sf_dir.proofs.directory.Directory.new.Goals as goal

pub of_words-requires : goal.of_words-requires
of_words-requires c =
    let items = c.in_ok-words.ensures.items_if_clones_equal (λ y e. e) in
    opens (record { keys = c.args.keys; key_bytes = c.args.key_bytes; desks = c.args.desks; seed0 = c.args.seed0; seed1 = c.args.seed1 }) c.as_slice.result.now (c.as_slice.ensures.value ∙ (items ∙ ap (λ n. replicate n 0) c.word_total_of.ensures))

range_more : (a n j : ℕ) → a + n ≡ j → range_with_len a (n + 1) ≡ range_with_len a n ++ j ∷ []
range_more a n j e = sym (map-id (range_with_len a (n + 1))) ∙ (map-range_with_len_more (λ (x : ℕ). x) a n j e ∙ ap (λ xs. xs ++ j ∷ []) (map-id (range_with_len a n)))

-- the numbers, with one more desk
numbers_more : (desks : List DeskState) (desk : DeskState) (n : ℕ) → numbers_of desks ≡ range_with_len 1 n → desk.number ≡ n + 1 → numbers_of (desks ++ desk ∷ []) ≡ range_with_len 1 (n + 1)
numbers_more desks desk n so is = map-append (λ (d : DeskState). d.number) desks (desk ∷ []) ∙ (ap (λ xs. xs ++ desk.number ∷ []) so ∙ (ap (λ k. range_with_len 1 n ++ k ∷ []) is ∙ sym (range_more 1 n (n + 1) (omega arith))))

pub loop-index-preserved : goal.loop-index-preserved
loop-index-preserved c =
    let was = c.loop-index.invariant in
    let first = c.deal.ensures.first in
    let from = was.from in
    let directory = directory_of c.in_ok-table.table.shared.table_id (record { keys = c.args.keys; key_bytes = c.args.key_bytes; desks = c.args.desks; seed0 = c.args.seed0; seed1 = c.args.seed1 }) in
    let is : c.deal.result ≡ record { directory = directory; number = c.loop-index.index + 1; seen = [] } = c.deal.ensures.desk ∙ ap (λ z. record { directory = directory_of c.in_ok-table.table.shared.table_id z; number = c.loop-index.index + 1; seen = [] }) was.key in
    record {
      own = c.deal.ensures.own ∙ was.own;
      key = was.key;
      total = was.total;
      sizes = ap (λ (v : View). v.sizes) first ∙ was.sizes;
      from = ap (λ (v : View). v.from) first ∙ omega arith;
      to = ap (λ (v : View). v.to) first ∙ was.to;
      free = ap (λ (v : View). v.spare) first;
      nothing = ap (λ (v : View). v.seen) first ∙ was.nothing;
      desks_of = subst (All (IsNewDesk directory)) (sym c.in_ok-push.ensures.items) (All-push (IsNewDesk directory) c.loop-index.list.items c.deal.result was.desks_of (ap (λ (d : DeskState). d.directory) is, ap (λ (d : DeskState). d.seen) is));
      numbers = ap numbers_of c.in_ok-push.ensures.items ∙ numbers_more c.loop-index.list.items c.deal.result c.loop-index.index was.numbers (ap (λ (d : DeskState). d.number) is);
    }
