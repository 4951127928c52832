-- what a look finds in a cache, and what it leaves
use Rattle.std.specs.Prelude.{ℕ, nat_eq, Bool, cond, List, [], ◌∷◌, Option, option_map}
use Rattle.std.specs.Map.{lookup}
use Rattle.lru.specs.LruCache.{promoted}
use Rattle.sf_fill_caches.specs.declared.shelf.CacheEntry.{CacheEntry}

module _ {T : Type 0} where
  -- the item of the place
  abbrev pub item_at : ℕ → List (ℕ × CacheEntry T) → Option T
  item_at place es = option_map (λ k. k.item) (lookup (nat_eq place) es)

  -- the entries, with this item at the place
  abbrev pub set_item : ℕ → T → List (ℕ × CacheEntry T) → List (ℕ × CacheEntry T)
  set_item place w [] = []
  set_item place w (e ∷ es) = cond (nat_eq place e.0) ((e.0, record e.1 { item = w }) ∷ es) (e ∷ set_item place w es)

  -- the place's entry in front, with this item
  abbrev pub looked : ℕ → T → List (ℕ × CacheEntry T) → List (ℕ × CacheEntry T)
  looked place w es = set_item place w (promoted (nat_eq place) es)
