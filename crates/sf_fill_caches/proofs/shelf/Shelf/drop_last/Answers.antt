use Rattle.std.proofs.Common.{◌-◌, length, sym, ap, ◌∙◌, arith}
use Rattle.sf_fill_caches.proofs.Weighing.{drops_last, drops_none, FitsIn-take}
use Rattle.sf_fill_caches.proofs.shelf.Shelf.drop_last.Goals as goal

pub overflow_sub-self : goal.overflow_sub-self
overflow_sub-self g c =
    let gone = drops_last c.self.inside.entries.entries (c.in-Some.field-0-0, c.in-Some.kept) (sym c.pop_lru.ensures.value ∙ c.in-Some.is) in
    let kept = c.self.invariant.0 in
    omega (arith, gone)

pub invariant_of-self : goal.invariant_of-self
invariant_of-self g c =
    let gone = drops_last c.self.inside.entries.entries (c.in-Some.field-0-0, c.in-Some.kept) (sym c.pop_lru.ensures.value ∙ c.in-Some.is) in
    let kept = c.self.invariant.0 in
    rw c.pop_lru.ensures.entries (omega (arith, gone), FitsIn-take c.self.inside.entries.cap (length c.self.inside.entries.entries - 1) c.self.inside.entries.entries c.self.invariant.1)

pub invariant_of-self-in_default : goal.invariant_of-self-in_default
invariant_of-self-in_default g c =
    let none = drops_none c.self.inside.entries.entries (sym c.pop_lru.ensures.value ∙ c.in_default.is) in
    let kept = c.self.invariant.0 in
    rw c.pop_lru.ensures.entries (rw none (rw none at kept), FitsIn-take c.self.inside.entries.cap (length c.self.inside.entries.entries - 1) c.self.inside.entries.entries c.self.invariant.1)
