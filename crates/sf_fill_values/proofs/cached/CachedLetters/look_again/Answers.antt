use Rattle.std.proofs.Common.{inr, refl}
use Rattle.sf_fill_values.proofs.cached.CachedLetters.look_again.Goals as goal

pub returns-in-Some-copy_of-clause-caches : goal.returns-in-Some-copy_of-clause-caches
returns-in-Some-copy_of-clause-caches g c =
    rw (← c.place-place.ensures) (inr (refl, (c.copy_of.new.self, c.in_default.ensures.caches, c.in-Some-copy_of.ensures.caches)))
