-- what the entries of a cache weigh, most recent first
use Rattle.std.specs.Prelude.{◌≡◌, ℕ, ◌+◌, ◌-◌, ◌<◌, ◌≤◌, List, [], ◌∷◌, length, take}
use Rattle.sf_fill_caches.specs.declared.shelf.CacheEntry.{CacheEntry}

module _ {T : Type 0} where
  -- the lengths of an entry's key and value
  abbrev pub kept_weight : CacheEntry T → ℕ
  kept_weight k = k.key_len + k.value_len

  -- the lengths of all keys and values
  abbrev pub weight_of : List (ℕ × CacheEntry T) → ℕ
  weight_of [] = 0
  weight_of (e ∷ es) = kept_weight e.1 + weight_of es

  -- without the least recent
  abbrev pub but_last : List (ℕ × CacheEntry T) → List (ℕ × CacheEntry T)
  but_last es = take (length es - 1) es

  -- each entry is of a place from 1 to the last
  abbrev pub FitsIn : ℕ → List (ℕ × CacheEntry T) → Type 0
  FitsIn places [] = Unit {0}
  FitsIn places (e ∷ es) = (1 ≤ e.0) × (e.0 ≤ places) × FitsIn places es
