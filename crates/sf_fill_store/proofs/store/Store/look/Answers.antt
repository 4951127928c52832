use Rattle.std.proofs.Common.{inl, refl}
use Rattle.sf_fill_store.proofs.store.Store.look.Goals as goal

pub returns-then-self-le0-clause-looked : goal.returns-then-self-le0-clause-looked
returns-then-self-le0-clause-looked g c = (c.args.caller.now, inl refl, inl refl)
