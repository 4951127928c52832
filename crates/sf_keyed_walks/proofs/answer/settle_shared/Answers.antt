use Rattle.std.proofs.Common.{subst}
use Rattle.sf_keyed_words.specs.declared.rule.View.{View}
use Rattle.sf_keyed_words.specs.Plays.{settles}
use Rattle.sf_keyed_walks.proofs.Origins.{settled_from}
use Rattle.sf_keyed_walks.proofs.answer.settle_shared.Goals as goal

pub returns-clause-settled : goal.returns-clause-settled
returns-clause-settled c =
    settled_from c.args.seat.now.me.0 c.settle.new.seat.me.0 c.args.call c.args.value c.settle.result c.requires.leads.0
    (subst (λ (v : View). settles v c.settle.result c.settle.new.seat.me.0) c.store_value.ensures.view c.settle.ensures.view)
