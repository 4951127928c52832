use Rattle.sf_group_tests.proofs.wait.jobs.abandon_all.Given as goal

abbrev pub decreases-loop-job : goal.decreases-loop-job
decreases-loop-job l = goal.left-loop-job l
