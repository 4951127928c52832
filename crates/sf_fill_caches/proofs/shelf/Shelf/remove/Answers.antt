use Rattle.std.proofs.Common.{nat_eq, sym, ap, ◌∙◌, subst, arith}
use Rattle.sf_fill_caches.specs.Weights.{weight_of, FitsIn}
use Rattle.sf_fill_caches.proofs.Weighing.{removes_found, removes_none, FitsIn-remove}
use Rattle.sf_fill_caches.proofs.shelf.Shelf.remove.Goals as goal

pub overflow_sub-self : goal.overflow_sub-self
overflow_sub-self g c =
    let gone = removes_found (nat_eq c.args.place) c.self.inside.entries.entries c.in-Some.kept (sym c.in-Some.ensures.value) in
    let kept = c.self.invariant.0 in
    omega (arith, gone)

pub invariant_of-self : goal.invariant_of-self
invariant_of-self g c =
    let gone = removes_found (nat_eq c.args.place) c.self.inside.entries.entries c.in-Some.kept (sym c.in-Some.ensures.value) in
    let kept = c.self.invariant.0 in
    rw c.pop.ensures.entries (omega (arith, gone), FitsIn-remove c.self.inside.entries.cap (nat_eq c.args.place) c.self.inside.entries.entries c.self.invariant.1)

pub invariant_of-self-in_default : goal.invariant_of-self-in_default
invariant_of-self-in_default g c =
    let none = removes_none (nat_eq c.args.place) c.self.inside.entries.entries (sym c.pop.ensures.value ∙ c.in_default.is) in
    rw (c.pop.ensures.entries, none) (c.self.invariant.0, c.self.invariant.1)
