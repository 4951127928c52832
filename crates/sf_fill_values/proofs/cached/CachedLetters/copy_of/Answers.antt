use Rattle.std.proofs.Common.{rules, refl}
use Rattle.sf_fill_values.proofs.Promoted.{lent_itself, serves}
use Rattle.sf_fill_values.proofs.cached.CachedLetters.copy_of.Goals as goal

pub returns-clause-caches : goal.returns-clause-caches
returns-clause-caches g c =
    serves _ c.args.place c.args.which c.self.inside.caches c.args.self.now _ c.self.view_is c.in_ok-cached.cached.now c.in_ok-cached.ensures.value _ (search rules) c.in_ok-cached.cached.now c.copy.new.self (lent_itself c.in_ok-cached.cached.now) c.copy.result c.copy.ensures.copied c.copy.ensures.refused refl

-- Named, so that a wrong body is refused at once: a search that has no answer tries more.
pub returns-clause-copy : goal.returns-clause-copy
returns-clause-copy g c = search rules
