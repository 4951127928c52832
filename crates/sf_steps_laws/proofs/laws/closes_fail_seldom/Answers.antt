use Rattle.sf_steps_laws.proofs.Closes.{closes_fail_seldom}
use Rattle.sf_steps_laws.proofs.Closings.{closes_are_few, closes_add}
use Rattle.sf_steps_laws.proofs.Parts.{failed_closes_add}
use Rattle.sf_steps_laws.proofs.laws.closes_fail_seldom.Goals as goal

pub returns-clause-seldom : goal.returns-clause-seldom
returns-clause-seldom g c z s a n is = closes_fail_seldom z s a n is

pub returns-clause-few : goal.returns-clause-few
returns-clause-few g c z s a n is = closes_are_few z s a n is

pub returns-clause-failed_add : goal.returns-clause-failed_add
returns-clause-failed_add g c w a n p q = failed_closes_add w a n p q

pub returns-clause-add : goal.returns-clause-add
returns-clause-add g c w a n p q = closes_add w a n p q
