-- what an entry ends as, once a reference to its item has ended
use Rattle.std.specs.Borrow.{Fml, RattleType, MutBor, Lends}
use Rattle.sf_fill_caches.specs.declared.shelf.CacheEntry.{CacheEntry}
use Rattle.sf_fill_caches.specs.contracts.shelf.CacheEntry.{the_row}

-- its item is what was last written
abbrev pub LendsItsItem : (T : RattleType) → MutBor (CacheEntry T.Denot) → MutBor T.Denot → Fml
LendsItsItem T s r = Lends (the_row T) T s r (λ w. record s.now { item = w })
