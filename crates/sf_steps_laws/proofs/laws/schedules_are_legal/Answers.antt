use Rattle.sf_steps_laws.proofs.RightAnswers.{schedules_are_legal}
use Rattle.sf_steps_laws.proofs.laws.schedules_are_legal.Goals as goal

pub returns : goal.returns
returns g c z s is = schedules_are_legal z s is
