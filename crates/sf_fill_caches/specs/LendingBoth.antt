-- what both caches end as, once a reference to an item has ended
use Rattle.std.specs.Prelude.{ℕ, Option}
use Rattle.std.specs.Borrow.{Fml, RattleType, MutBor, LendsIf}
use Rattle.sf_fill_caches.specs.declared.caches.Which.{Which}
use Rattle.sf_fill_caches.specs.contracts.caches.Caches.{the_row}
use Rattle.sf_fill_caches.specs.Trimming.{CachesValue, in_one}
use Rattle.sf_fill_caches.specs.Looks.{looked}

-- the place's entry is in front of its cache, with the last item written
abbrev pub LendsFrom : (T : RattleType) → MutBor (CachesValue T.Denot) → Which → ℕ → Option (MutBor T.Denot) → Fml
LendsFrom T s which place r = LendsIf (the_row T) T s r (λ w. in_one (looked place w) which s.now) s.now
