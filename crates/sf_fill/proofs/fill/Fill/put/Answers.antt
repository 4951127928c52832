use Rattle.std.proofs.Common.{IsTrue, false, refl}
use Rattle.sf_fill.proofs.fill.Fill.put.Goals as goal

pub returns-in-Err : goal.returns-in-Err
returns-in-Err g c = record {
  full = λ full. let clash : IsTrue false = c.if-is_full.ensures.full.1 full in cc;
  puts = λ room. record { middle = c.reload.new.getter; came_to = c.reload.result; reloaded = c.reload.ensures.adds; then = rw c.in-Err.is (refl, refl) };
}

pub returns : goal.returns
returns g c = record {
  full = λ full. let clash : IsTrue false = c.if-is_full.ensures.full.1 full in cc;
  puts = λ room. record { middle = c.reload.new.getter; came_to = c.reload.result; reloaded = c.reload.ensures.adds; then = rw c.in_default.is c.put_new.ensures };
}
