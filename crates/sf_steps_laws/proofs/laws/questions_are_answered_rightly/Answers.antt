use Rattle.sf_steps_laws.proofs.RightAnswers.{peeks_are_right, looks_are_right}
use Rattle.sf_steps_laws.proofs.Peeks.{looks_have_peeks}
use Rattle.sf_steps_laws.proofs.laws.questions_are_answered_rightly.Goals as goal

pub returns-clause-at_the_peek : goal.returns-clause-at_the_peek
returns-clause-at_the_peek g c z s is a k d answer at said = peeks_are_right z s is a k d answer at said

pub returns-clause-at_the_look : goal.returns-clause-at_the_look
returns-clause-at_the_look g c z p rest a k d answer is at looks said = looks_are_right z p rest a k d answer is at looks said

pub returns-clause-looks_have_peeks : goal.returns-clause-looks_have_peeks
returns-clause-looks_have_peeks g c z s is a k d looks = looks_have_peeks z s is a k d looks
