use Rattle.std.proofs.Common.{nat_eq, arith}
use Rattle.sf_fill_caches.proofs.Trims.{weight_of-remove}
use Rattle.sf_fill_caches.proofs.caches.Caches.remove.Goals as goal

pub invariant_of-self : goal.invariant_of-self
invariant_of-self g c =
    let less = weight_of-remove (nat_eq c.args.place) c.self.inside.main.entries in
    let kept = c.self.invariant in
    rw c.remove.ensures (omega (arith, kept.0, less), kept.1)

pub invariant_of-self-in-Hot : goal.invariant_of-self-in-Hot
invariant_of-self-in-Hot g c =
    let less = weight_of-remove (nat_eq c.args.place) c.self.inside.hot.entries in
    let kept = c.self.invariant in
    rw c.remove-in-Hot.ensures (omega (arith, kept.0, less), kept.1)
