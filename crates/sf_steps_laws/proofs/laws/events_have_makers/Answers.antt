use Rattle.sf_steps_laws.proofs.Named.{makers_are_callers, others_add_nothing}
use Rattle.sf_steps_laws.proofs.laws.events_have_makers.Goals as goal

pub returns-clause-callers : goal.returns-clause-callers
returns-clause-callers g c z s is = makers_are_callers z s is

pub returns-clause-others : goal.returns-clause-others
returns-clause-others g c z s ts is b others = others_add_nothing z s ts is b others
