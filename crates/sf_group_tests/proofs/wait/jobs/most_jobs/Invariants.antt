use Rattle.std.proofs.Common.{◌≡◌, ◌≤◌, All}
use Rattle.std.specs.Prelude.{vec_len, vec_capacity}
use Rattle.sf_group_rows.specs.Tokens.{CallerValue}
use Rattle.sf_wait.specs.Jobs.{JobValue}
use Rattle.sf_group_tests.proofs.wait.jobs.most_jobs.Given as goal

abbrev pub invariant-loop-index : goal.invariant-loop-index
invariant-loop-index g l = record {
  list : All (λ (c : CallerValue _). c.group ≡ l.group) l.list.items;
  jobs : All (λ (j : JobValue _ _). j.flight.group ≡ l.group) l.jobs.items;
  count : vec_len l.jobs ≡ l.index;
  room : 64 ≤ vec_capacity l.jobs;
}
