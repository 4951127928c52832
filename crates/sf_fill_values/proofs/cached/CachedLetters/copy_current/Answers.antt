use Rattle.std.proofs.Common.{rules, refl, inr}
use Rattle.sf_fill_values.proofs.Looks.{current_letter, looked}
use Rattle.sf_fill_values.proofs.Promoted.{serves_current, drops_stale}
use Rattle.sf_fill_values.proofs.cached.CachedLetters.copy_current.Goals as goal

pub returns-then-is_current-clause-looked : goal.returns-then-is_current-clause-looked
returns-then-is_current-clause-looked g c =
    looked _ _ _ _ _ _ _ _ (current_letter g.N.Naming.group _ _ c.args.place _ _ _ c.requires.caller (search rules) c.known.ensures c.is_current.ensures c.if-is_current.true) c.is_current.ensures.lent c.copy.ensures.copied

pub returns-then-is_current-clause-caches : goal.returns-then-is_current-clause-caches
returns-then-is_current-clause-caches g c =
    serves_current _ c.args.place c.args.which c.self.inside.caches c.args.self.now _ c.self.view_is c.in_ok-cached.cached.now c.in_ok-cached.ensures.value _ (search rules) c.is_current.new.self c.copy.new.self c.is_current.ensures.lent _ _
    (current_letter g.N.Naming.group _ _ c.args.place _ _ _ c.requires.caller (search rules) c.known.ensures c.is_current.ensures c.if-is_current.true) c.copy.result c.copy.ensures.copied c.copy.ensures.refused refl

pub returns-clause-caches : goal.returns-clause-caches
returns-clause-caches g c =
    inr (drops_stale _ c.args.place c.args.which c.self.inside.caches c.args.self.now _ c.self.view_is c.in_ok-cached.cached.now c.in_ok-cached.ensures.value (search rules) c.is_current.new.self c.is_current.new.caller (c.is_current.ensures.outdated c.if-is_current.false) c.remove.ensures)
