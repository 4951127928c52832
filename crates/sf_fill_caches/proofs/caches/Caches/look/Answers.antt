use Rattle.std.proofs.Common.{arith}
use Rattle.sf_fill_caches.proofs.Looking.{weight_of-looked}
use Rattle.sf_fill_caches.proofs.caches.Caches.look.Goals as goal

pub invariant_of-self-lent : goal.invariant_of-self-lent
invariant_of-self-lent g c = λ r. (λ w. let kept = c.self.invariant in (omega (arith, kept.0, weight_of-looked c.args.place w c.self.inside.main.entries), kept.1), c.self.invariant)

pub invariant_of-self-lent-in-Hot : goal.invariant_of-self-lent-in-Hot
invariant_of-self-lent-in-Hot g c = λ r. (λ w. let kept = c.self.invariant in (omega (arith, kept.0, weight_of-looked c.args.place w c.self.inside.hot.entries), kept.1), c.self.invariant)
