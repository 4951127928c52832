use Rattle.sf_keyed_walks.proofs.Origins.{alone_from}
use Rattle.sf_keyed_walks.proofs.answer.settle_call.Goals as goal

pub returns-then-settle_alone-ready-clause-alone : goal.returns-then-settle_alone-ready-clause-alone
returns-then-settle_alone-ready-clause-alone c _ =
    let won = c.settle_alone.ensures.view.won c.if-settle_alone-ready.true in
    alone_from c.args.seat.now.me.0 c.settle_alone.new.seat.me.0 c.args.call c.requires.leads.0 c.requires.idle.1 won.0 won.1
