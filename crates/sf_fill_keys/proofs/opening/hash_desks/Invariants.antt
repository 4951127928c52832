use Rattle.std.proofs.Common.{◌≡◌, inr, vec_len}
use Rattle.sf_fill_keys.specs.Spaces.{AreDesksOf}
use Rattle.sf_fill_keys.proofs.opening.hash_desks.Given as goal

abbrev pub invariant-loop : goal.invariant-loop
invariant-loop l = (vec_len l.made ≡ l.counter) × AreDesksOf (inr l.fn.places) l.made.items
