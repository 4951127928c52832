use Rattle.std.proofs.Common.{rules, ◌≡◌, ◌<◌, length, true}
use Rattle.sf_keyed_chain.proofs.Sights.{done_here, gone_next}
use Rattle.sf_keyed_chain.proofs.front.ChainFront.passed.Goals as goal

pub loop-at-preserved : goal.loop-at-preserved
loop-at-preserved c k =
    let me = c.args.self.now in
    let within : c.loop-at.at < length me = search rules in
    let yes : c.is_done.result ≡ true = search rules in
    gone_next k c.loop-at.at me (c.loop-at.invariant k) (done_here k c.loop-at.at me c.self.inside.parts.items c.index.result.now c.is_done.result c.self.view_is within c.index.ensures c.is_done.ensures yes)
