use Rattle.std.proofs.Common.{ℕ, nat_eq, option_map, Some, inl, refl, sym, ap, ◌∙◌, arith}
use Rattle.lru.specs.LruCache.{LruCache, lru_cache}
use Rattle.sf_fill_caches.specs.declared.shelf.CacheEntry.{CacheEntry}
use Rattle.sf_fill_caches.proofs.Looking.{looks_at, weight_of-looked, FitsIn-looked}
use Rattle.sf_fill_caches.proofs.shelf.Shelf.look.Goals as goal

pub invariant_of-self-lent : goal.invariant_of-self-lent
invariant_of-self-lent g c = λ w.
    let es = c.self.inside.entries.entries in let place = c.args.place in
    let kept = c.self.invariant in
    let was = looks_at place es c.in_ok-kept.kept.now w (sym c.in_ok-kept.ensures.value) in
    rw was (kept.0 ∙ sym (weight_of-looked place w es), FitsIn-looked c.self.inside.entries.cap place w es kept.1)

pub returns : goal.returns
returns g c =
    let es = c.self.inside.entries.entries in let place = c.args.place in
    let cap = c.self.inside.entries.cap in
    rw (← c.self.view_is) (
      ap (λ (h : g.row.T.Denot → LruCache ℕ (CacheEntry g.row.T.Denot)). inl (c.item_mut.result.ghost_name, h)) (λ i w. (ap (λ l. lru_cache l cap) (looks_at place es c.in_ok-kept.kept.now w (sym c.in_ok-kept.ensures.value))) i),
      record { writes_back = tt; value = ap Some c.item_mut.ensures.value ∙ ap (option_map (λ (k : CacheEntry g.row.T.Denot). k.item)) c.in_ok-kept.ensures.value },
    )
