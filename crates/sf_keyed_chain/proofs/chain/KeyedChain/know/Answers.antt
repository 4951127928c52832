use Rattle.std.specs.Prelude.{is_ok}
use Rattle.sf_keyed_chain.proofs.Sights.{heard_pushed}
use Rattle.sf_keyed_chain.proofs.chain.KeyedChain.know.Goals as goal

pub returns-clause-heard : goal.returns-clause-heard
returns-clause-heard c = heard_pushed (is_ok c.push.result) c.args.me.now c.me.inside.parts.items c.push.new.self.items c.new.result c.me.view_is c.push.ensures.items
