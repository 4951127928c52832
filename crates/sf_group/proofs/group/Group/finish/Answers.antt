use Rattle.sf_group.proofs.Deliveries.{finished_after, closed_known}
use Rattle.sf_group.proofs.group.Group.finish.Goals as goal

pub returns-in-Held-clause-finished : goal.returns-in-Held-clause-finished
returns-in-Held-clause-finished g c =
    let held = c.in-Held in
    finished_after g.V.Fit.fits c.args.flight c.args.value held.settled c.hand_on_held.result held.ensures.finished c.hand_on_held.ensures.gone

pub returns-in-Held-clause-closed : goal.returns-in-Held-clause-closed
returns-in-Held-clause-closed g c =
    let held = c.in-Held in let closed = held.ensures.closed in
    closed_known c.args.flight held.settled closed.0 c.hand_on_held.result held.ensures.finished.group closed.1 c.hand_on_held.ensures.known
