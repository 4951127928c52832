use Rattle.std.proofs.Common.{rules, ◌≡◌, ◌≤◌, length}
use Rattle.sf_keyed.specs.Calls.{IsSettled}
use Rattle.sf_keyed_chain.proofs.Later.{on_settled}
use Rattle.sf_keyed_chain.proofs.Sights.{far_by}
use Rattle.sf_keyed_chain.proofs.chain.KeyedChain.settle_at.Goals as goal

pub returns-clause-settled : goal.returns-clause-settled
returns-clause-settled c =
    let beyond : length c.reach.new.me ≤ c.args.table = search rules in
    let same : c.enter.result.group ≡ c.args.flight.group = search rules in
    far_by (λ b a. IsSettled b a c.args.flight c.args.value c.settle-2.result) c.args.table c.args.flight.group c.args.me.now c.reach.new.me c.enter.result c.settle-2.new.me c.reach.ensures.heard beyond same
    (on_settled c.enter.result c.settle-2.new.me c.args.flight c.args.value c.settle-2.result c.settle-2.ensures) c.settle-2.ensures
