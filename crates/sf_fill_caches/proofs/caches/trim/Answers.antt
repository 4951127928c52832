use Rattle.std.proofs.Common.{◌-◌, length, ap, ◌∙◌, arith}
use Rattle.sf_fill_caches.proofs.Trims.{trims_hot, trims_main, trims_none, weight_of-take}
use Rattle.sf_fill_caches.proofs.caches.trim.Goals as goal

pub over-preserved-then-bytes : goal.over-preserved-then-bytes
over-preserved-then-bytes g c =
    let main = c.over.main.entries in let hot = c.over.hot.entries in
    let over = c.over-test.true in let more = c.if-bytes.true in let inv = c.over.invariant in
    let b1 = c.bytes.ensures in let b2 = c.bytes-in-over.ensures in let b3 = c.bytes-in-over-2.ensures in let b4 = c.bytes-in-over-3.ensures in
    let on = trims_hot c.args.limit main hot (omega (arith, b3, b4, more)) (omega (arith, b1, b2, over)) in
    rw c.drop_last.ensures (record {
      trimmed = on.0 ∙ inv.trimmed;
      weight = omega (arith, inv.weight, weight_of-take (length hot - 1) hot);
      caps = inv.caps;
    })

pub over-preserved : goal.over-preserved
over-preserved g c =
    let main = c.over.main.entries in let hot = c.over.hot.entries in
    let over = c.over-test.true in let less = c.if-bytes.false in let inv = c.over.invariant in
    let b1 = c.bytes.ensures in let b2 = c.bytes-in-over.ensures in let b3 = c.bytes-in-over-2.ensures in let b4 = c.bytes-in-over-3.ensures in
    let on = trims_main c.args.limit main hot (omega (arith, b3, b4, less)) (omega (arith, b1, b2, over)) in
    rw c.drop_last-else-bytes.ensures (record {
      trimmed = on.0 ∙ inv.trimmed;
      weight = omega (arith, inv.weight, weight_of-take (length main - 1) main);
      caps = inv.caps;
    })
