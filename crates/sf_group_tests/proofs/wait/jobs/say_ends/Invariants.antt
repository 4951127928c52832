use Rattle.sf_group_tests.proofs.wait.jobs.say_ends.Given as goal

abbrev pub decreases-loop-one : goal.decreases-loop-one
decreases-loop-one l = goal.left-loop-one l
