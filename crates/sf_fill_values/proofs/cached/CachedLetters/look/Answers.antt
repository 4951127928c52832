use Rattle.std.proofs.Common.{inr}
use Rattle.sf_fill_values.proofs.cached.CachedLetters.look.Goals as goal

pub returns-clause-caches : goal.returns-clause-caches
returns-clause-caches g c =
    inr (c.copy_current.new.caller, c.copy_current.new.self, c.in_default.ensures.caches, c.copy_current-2.ensures.caches)
