use Rattle.std.specs.Prelude.{◌≡◌, ◌+◌, ◌≤◌, ◌++◌, All, map, reverse, vec_len, vec_capacity}
use Rattle.std.specs.List.{enumerate_from}
use Rattle.sf_fill_open.proofs.team.hand_out.Given as goal

abbrev pub invariant-hand : goal.invariant-hand
invariant-hand g l = record {
  all : vec_len l.jobs + vec_len l.getters ≡ vec_len l.fn.getters;
  room : vec_len l.fn.getters ≤ vec_capacity l.jobs;
  list : vec_len l.fn.getters ≤ vec_capacity l.getters;
  handed : map (λ job. (job.index, job.getter)) l.jobs.items ++ reverse (enumerate_from 0 l.getters.items) ≡ reverse (enumerate_from 0 l.fn.getters.items);
  team : All (λ job. job.team.now ≡ l.team) l.jobs.items;
}

abbrev pub decreases-hand : goal.decreases-hand
decreases-hand g l = vec_len l.getters
