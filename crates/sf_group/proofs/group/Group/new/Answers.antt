use Rattle.std.proofs.Common.{◌≡◌, ℕ, ◌+◌, List, None, ap, sym, ◌∙◌, subst}
use Rattle.std.specs.List.{All}
use Rattle.std.specs.Prelude.{replicate}
use Rattle.std.proofs.lemmas.List.Elements.{All-push}
use Rattle.atomic_table.specs.Table.{opening}
use Rattle.sf_group_rows.specs.declared.sizes.Sizes.{Sizes}
use Rattle.sf_group_rows.specs.Tokens.{GroupValue, CallerValue}
use Rattle.sf_group_steps.specs.View.{first_view}
use Rattle.sf_group_steps.specs.Shows.{Holds}
use Rattle.sf_group.specs.Dealing.{IsDealing}
use Rattle.sf_group_rows.specs.Making.{IsNewCaller, new_caller, numbers_of}
use Rattle.sf_group_steps.proofs.Seats.{opens}
use Rattle.sf_group.proofs.Dealing.{numbers_more}
use Rattle.sf_group.proofs.group.Group.new.Goals as goal

pub vacant-requires : goal.vacant-requires
vacant-requires g c =
    let z : Sizes = record { places = c.args.places; callers = c.args.callers; first = c.args.first_generation } in
    subst (λ (q : List ℕ). Holds g.V.Fit.fits z (opening q (replicate (c.args.callers + 1) None) (first_view z))) (sym (c.as_slice.ensures.value ∙ (c.in_ok-zeros.ensures.items_if_clones_equal (λ y e. e) ∙ ap (λ (n : ℕ). replicate n 0) c.word_count.ensures))) (opens g.V.Fit.fits z)

pub loop-index-preserved : goal.loop-index-preserved
loop-index-preserved g c =
    let z : Sizes = record { places = c.args.places; callers = c.args.callers; first = c.args.first_generation } in
    let was = c.loop-index.invariant in
    let o : GroupValue = record { table = c.in_ok-table.table.shared.table_id; sizes = z } in
    let is : c.deal.result ≡ new_caller o (c.loop-index.index + 1) = c.deal.ensures.caller ∙ ap (λ (s : Sizes). new_caller (record { table = c.in_ok-table.table.shared.table_id; sizes = s }) (c.loop-index.index + 1)) was.key in
    record {
      own = c.deal.ensures.own ∙ was.own;
      key = was.key;
      words = was.words;
      slots = was.slots;
      dealing = subst (λ (s : Sizes). IsDealing (c.loop-index.index + 1 + 1) s c.deal.new.first.me.0) was.key c.deal.ensures.first.0;
      empty = c.deal.ensures.first.1;
      new = subst (All (IsNewCaller o)) (sym c.in_ok-push.ensures.items) (All-push (IsNewCaller o) c.loop-index.list.items c.deal.result was.new (ap (λ (x : CallerValue _). x.group) is, ap (λ (x : CallerValue _). x.seen) is, ap (λ (x : CallerValue _). x.turns) is));
      numbers = ap numbers_of c.in_ok-push.ensures.items ∙ numbers_more c.loop-index.list.items c.deal.result c.loop-index.index was.numbers (ap (λ (x : CallerValue _). x.number) is);
    }
