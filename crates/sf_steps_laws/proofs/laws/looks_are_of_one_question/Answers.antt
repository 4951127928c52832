use Rattle.sf_steps_laws.proofs.Questions.{looks_have_own_peeks, yes_at_the_peek_no_at_the_look}
use Rattle.sf_steps_laws.proofs.laws.looks_are_of_one_question.Goals as goal

pub returns-clause-own_peeks : goal.returns-clause-own_peeks
returns-clause-own_peeks g c z s is a k d looks = looks_have_own_peeks z s is a k d looks

pub returns-clause-yes_and_no : goal.returns-clause-yes_and_no
returns-clause-yes_and_no g c z p rest a k d is at looks = yes_at_the_peek_no_at_the_look z p rest a k d is at looks
