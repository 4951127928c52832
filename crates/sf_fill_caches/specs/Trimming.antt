-- the two caches: what a put, a look and a removal make of them
use Rattle.std.specs.Prelude.{◌≡◌, ℕ, zero, suc, ◌+◌, ◌-◌, ◌/◌, ◌<◌, ◌≤◌, ℤ, pos, negsuc, nat_eq, nat_lt, Bool, cond, List, [], ◌∷◌, length, take}
use Rattle.std.specs.Map.{remove_entry}
use Rattle.lru.specs.LruCache.{promoted}
use Rattle.sf_fill_caches.specs.declared.shelf.CacheEntry.{CacheEntry}
use Rattle.sf_fill_caches.specs.declared.caches.Which.{Which}
use Rattle.sf_fill_caches.specs.declared.caches.Which.TheVariants.{Main, Hot}
use Rattle.sf_fill_caches.specs.Weights.{weight_of, but_last}

-- both caches, most recent first, their limit in bytes, and how many places there are
pub record CachesValue (T : Type 0) : Type 0 where
  pub limit : ℕ
  pub places : ℕ
  pub main : List (ℕ × CacheEntry T)
  pub hot : List (ℕ × CacheEntry T)

-- the bytes that a limit leaves: none where it is negative
abbrev pub room_of : ℤ → ℕ
room_of (pos n) = n
room_of (negsuc n) = 0

module _ {T : Type 0} where
  abbrev pub no_entries : ℕ → ℕ → CachesValue T
  no_entries limit places = record { limit = limit; places = places; main = []; hot = [] }

  abbrev pub weight_of_both : List (ℕ × CacheEntry T) × List (ℕ × CacheEntry T) → ℕ
  weight_of_both b = weight_of b.0 + weight_of b.1

  -- without one: the oldest of hot where hot weighs more than an eighth of main, and else the oldest of main
  abbrev pub one_less : List (ℕ × CacheEntry T) × List (ℕ × CacheEntry T) → List (ℕ × CacheEntry T) × List (ℕ × CacheEntry T)
  one_less b = cond (nat_lt (weight_of b.0 / 8) (weight_of b.1)) (b.0, but_last b.1) (but_last b.0, b.1)

  -- one less, for so many times at most, while the limit is exceeded
  abbrev pub trimmed_by : ℕ → ℕ → List (ℕ × CacheEntry T) × List (ℕ × CacheEntry T) → List (ℕ × CacheEntry T) × List (ℕ × CacheEntry T)
  trimmed_by zero limit b = b
  trimmed_by (suc n) limit b = cond (nat_lt limit (weight_of_both b)) (trimmed_by n limit (one_less b)) b

  -- one less while the limit is exceeded
  abbrev pub trimmed : ℕ → List (ℕ × CacheEntry T) × List (ℕ × CacheEntry T) → List (ℕ × CacheEntry T) × List (ℕ × CacheEntry T)
  trimmed limit b = trimmed_by (length b.0 + length b.1) limit b

  abbrev pub with_both : CachesValue T → List (ℕ × CacheEntry T) × List (ℕ × CacheEntry T) → CachesValue T
  with_both c b = record c { main = b.0; hot = b.1 }

  abbrev pub in_one : (List (ℕ × CacheEntry T) → List (ℕ × CacheEntry T)) → Which → CachesValue T → CachesValue T
  in_one f Main c = record c { main = f c.main }
  in_one f Hot c = record c { hot = f c.hot }

  -- the cache without the entry of the place
  abbrev pub removed : Which → ℕ → CachesValue T → CachesValue T
  removed which place = in_one (remove_entry (nat_eq place)) which

  -- the place's entry is in front, and the rest is trimmed; nothing is kept where there is no room at all
  abbrev pub after_put : Which → ℕ → CacheEntry T → CachesValue T → CachesValue T
  after_put which place kept c =
      let p = in_one (λ es. (place, kept) ∷ remove_entry (nat_eq place) es) which c in
      cond (nat_eq c.limit 0) c (with_both p (trimmed c.limit (p.main, p.hot)))

  abbrev pub entries_of : Which → CachesValue T → List (ℕ × CacheEntry T)
  entries_of Main c = c.main
  entries_of Hot c = c.hot
