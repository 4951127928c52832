use Rattle.sf_group_rows.specs.declared.outcomes.Polled.TheVariants.{Ready}
use Rattle.sf_group_rows.proofs.RowsAfter.{polled_after}
use Rattle.sf_wait.proofs.waiting.wait.Goals as goal

pub returns-in-Ready : goal.returns-in-Ready
returns-in-Ready g c = polled_after g.V.Fit.fits c.args.ticket c.loop.waiting (Ready c.in-Ready.caller c.in-Ready.letter) c.loop.invariant.2 c.in-Ready.ensures
