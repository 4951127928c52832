use Rattle.std.proofs.Common.{string_bytes, arith, rules, sym, ◌∙◌}
use Rattle.sf_bench.proofs.Wording.{one_mapped, one_more_mapped}
use Rattle.sf_bench.specs.Names.{name_of}
use Rattle.sf_bench.proofs.request.parse.Goals as goal

pub returns-then-eq-clause-asked : goal.returns-then-eq-clause-asked
returns-then-eq-clause-asked c = one_mapped string_bytes c.args.words.now c.word-item.result _ (omega arith) c.word-item.is (search rules)

pub loop-word-preserved : goal.loop-word-preserved
loop-word-preserved c =
    let same = sym c.as_str-word.ensures.value ∙ (c.named.ensures c.in-Some.benchmark).0 c.in-Some.is in
    let named = one_more_mapped name_of string_bytes c.loop-word.chosen.items c.args.words.now c.loop-word.word-index c.in-Some.benchmark c.word-item-in-loop-word.result
    c.loop-word-test.true c.loop-word.invariant (sym same) c.word-item-in-loop-word.is in
    rw c.in_ok-push-in-Some.ensures.items named
