-- what a leader counts
use Rattle.sf_steps_laws.proofs.Counting.{counts_are_right, settles_are_counted, counts_have_lists}
use Rattle.sf_steps_laws.proofs.laws.leaders_count_rightly.Goals as goal

pub returns-clause-answers : goal.returns-clause-answers
returns-clause-answers g c z s is a k i own v step n at number = counts_are_right z s is a k i own v step n at number

pub returns-clause-settles : goal.returns-clause-settles
returns-clause-settles g c z s is a k i own v step n at number p q b m x stands = settles_are_counted z s is a k i own v step n at number p q b m x stands

pub returns-clause-lists : goal.returns-clause-lists
returns-clause-lists g c z s is a k i n m top own v at = counts_have_lists z s is a k i n m top own v at
