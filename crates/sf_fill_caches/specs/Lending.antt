-- what a cache ends as, once a reference to one of its items has ended
use Rattle.std.specs.Prelude.{ℕ, Option}
use Rattle.std.specs.Borrow.{Fml, RattleType, MutBor, LendsIf}
use Rattle.lru.specs.LruCache.{LruCache, lru_cache}
use Rattle.sf_fill_caches.specs.declared.shelf.CacheEntry.{CacheEntry}
use Rattle.sf_fill_caches.specs.contracts.shelf.Shelf.{the_row}
use Rattle.sf_fill_caches.specs.Looks.{looked}

-- the place's entry is in front, with the last item written
abbrev pub LendsItem : (T : RattleType) → MutBor (LruCache ℕ (CacheEntry T.Denot)) → ℕ → Option (MutBor T.Denot) → Fml
LendsItem T s place r = LendsIf (the_row T) T s r (λ w. lru_cache (looked place w s.now.entries) s.now.cap) s.now
