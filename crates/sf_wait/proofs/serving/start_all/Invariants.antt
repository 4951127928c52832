use Rattle.std.proofs.Common.{◌≡◌, ◌≤◌, ◌+◌, ◌++◌, length, All, vec_len, vec_capacity}
use Rattle.std.specs.Vec.Iter.{into_iter_items, into_iter_len}
use Rattle.sf_wait.proofs.serving.start_all.Given as goal

-- the jobs that are out of the queue are started
abbrev pub invariant-loop-job : goal.invariant-loop-job
invariant-loop-job g l = record {
  started : l.fn.waiting ≡ l.started.items ++ into_iter_items l.jobs;
  counted : into_iter_len l.jobs ≡ length (into_iter_items l.jobs);
  few : l.number + into_iter_len l.jobs ≤ 64;
  room : vec_len l.started + into_iter_len l.jobs ≤ vec_capacity l.started;
  own : All (λ j. j.flight.group ≡ l.group) (into_iter_items l.jobs);
}

abbrev pub decreases-loop-job : goal.decreases-loop-job
decreases-loop-job g l = into_iter_len l.jobs
