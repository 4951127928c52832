use Rattle.std.proofs.Common.{nat_eq, sym, ap, ◌∙◌, arith}
use Rattle.lru.specs.LruCache.{lru_cache}
use Rattle.sf_fill_caches.proofs.Weighing.{removes_found, removes_none, FitsIn-remove, puts_front}
use Rattle.sf_fill_caches.proofs.shelf.Shelf.put.Goals as goal

pub overflow_sub-self : goal.overflow_sub-self
overflow_sub-self g c =
    let gone = removes_found (nat_eq c.args.place) c.self.inside.entries.entries c.in-Some.old (sym c.in-Ok.ensures.old ∙ c.in-Some.is) in
    let kept = c.self.invariant.0 in
    omega (arith, gone)

pub invariant_of-self : goal.invariant_of-self
invariant_of-self g c =
    let old = c.self.inside.entries in
    let gone = removes_found (nat_eq c.args.place) old.entries c.in-Some.old (sym c.in-Ok.ensures.old ∙ c.in-Some.is) in
    let kept = c.self.invariant.0 in
    let place = rw (← c.self.view_is) at c.requires.place in
    let front = puts_front old c.args.place c.args.kept place.0 place.1 c.self.invariant.1 c.len.ensures.valid.0 in
    rw (c.in-Ok.ensures.entries, front) (omega (arith, gone), (place.0, place.1, FitsIn-remove old.cap (nat_eq c.args.place) old.entries c.self.invariant.1))

pub invariant_of-self-in_default : goal.invariant_of-self-in_default
invariant_of-self-in_default g c =
    let old = c.self.inside.entries in
    let none = removes_none (nat_eq c.args.place) old.entries (sym c.in-Ok.ensures.old ∙ c.in_default.is) in
    let kept = c.self.invariant.0 in
    let place = rw (← c.self.view_is) at c.requires.place in
    let front = puts_front old c.args.place c.args.kept place.0 place.1 c.self.invariant.1 c.len.ensures.valid.0 in
    rw (c.in-Ok.ensures.entries, front, none) (omega arith, (place.0, place.1, c.self.invariant.1))

pub returns-in-Some-clause-put : goal.returns-in-Some-clause-put
returns-in-Some-clause-put g c =
    let old = c.self.inside.entries in
    let place = rw (← c.self.view_is) at c.requires.place in
    let front = puts_front old c.args.place c.args.kept place.0 place.1 c.self.invariant.1 c.len.ensures.valid.0 in
    rw (← c.self.view_is) (c.in-Ok.ensures.entries ∙ ap (λ es. lru_cache es old.cap) front)

pub returns-in_default-clause-put : goal.returns-in_default-clause-put
returns-in_default-clause-put g c =
    let old = c.self.inside.entries in
    let place = rw (← c.self.view_is) at c.requires.place in
    let front = puts_front old c.args.place c.args.kept place.0 place.1 c.self.invariant.1 c.len.ensures.valid.0 in
    rw (← c.self.view_is) (c.in-Ok.ensures.entries ∙ ap (λ es. lru_cache es old.cap) front)
